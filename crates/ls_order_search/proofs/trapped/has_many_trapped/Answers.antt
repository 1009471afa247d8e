-- Why `has_many_trapped` in src/trapped.rt keeps its contract and its loop `call`.

use Rattle.std.proofs.Common.{◌∙◌, ◌&&◌, ◌+◌, ◌≤◌, ap, arith, cond, get_or, subst, sym, take_all}
use Rattle.ls_orders.proofs.RuleLemmas.{no_call}
use Rattle.ls_orders.specs.declared.calls.SetCall.{SetCall}
use Rattle.std.specs.Ordering.{int_eq}
use Rattle.ls_order_search.specs.Trapped.{is_trapped, most_trapped, trapped_on}
use Rattle.ls_order_search.proofs.Counts.{counted_more, few_enough, too_many}
use Rattle.ls_order_search.proofs.trapped.has_many_trapped.Goals as goal

pub returns-then-not-branch : goal.returns-then-not-branch
returns-then-not-branch c =
    let many = c.in_ok-count_call.ensures.many c.if-not-branch.true in
    too_many c.args.calls.now c.loop-call.call-index no_call c.loop-call-test.true many.0
    (sym (c.loop-call.invariant _).0 ∙ many.1)

pub loop-call-preserved : goal.loop-call-preserved
loop-call-preserved c = λ z.
    let x : SetCall = get_or c.args.calls.now c.loop-call.call-index no_call in
    let few = c.in_ok-count_call.ensures.few c.if-not-branch.false z in (
      few.0 ∙ ap (λ n. n + cond (is_trapped x.end && int_eq x.item z) 1 0) (c.loop-call.invariant z).0
          ∙ sym (counted_more z c.args.calls.now c.loop-call.call-index no_call c.loop-call-test.true),
      few.1,
    )

pub returns : goal.returns
returns c = few_enough c.args.calls.now (λ z.
    let h = c.loop-call.invariant z in
    let whole = take_all c.loop-call.call-index c.args.calls.now (omega arith) in
    subst (λ l. trapped_on z l ≤ most_trapped) whole (subst (λ n. n ≤ most_trapped) h.0 h.1))
