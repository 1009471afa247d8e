-- Why `first_wrong` in src/rules.rt keeps its loop `i`.

use Rattle.std.proofs.Common.{◌∙◌, ap, sym}
use Rattle.ls_orders.specs.Rules.{after_call, answer_of, differs, has_wrong_reply}
use Rattle.ls_orders.proofs.RuleLemmas.{at, goes_on, present_more}
use Rattle.ls_orders.proofs.rules.first_wrong.Goals as goal

pub loop-i-preserved : goal.loop-i-preserved
loop-i-preserved c =
    let xs = c.args.order.now in
    let i = c.loop-i.i in
    let call = at xs i in
    record {
      same = λ z. c.in_ok-apply.ensures z ∙ ap (λ b. after_call z b call) (c.loop-i.invariant.same z) ∙
          sym (present_more z xs i c.loop-i-test.true);
      found = goes_on has_wrong_reply xs i _ c.loop-i-test.true
          (ap (λ b. differs call.end (answer_of call.operation b))
          (sym (c.contains-was.ensures ∙ c.loop-i.invariant.same call.item))
          ∙ ap (differs call.end) (sym c.answer_of.ensures) ∙ sym c.differs.ensures ∙ c.if-differs.false)
          c.loop-i.invariant.found;
    }
