-- Why `first_repeated` in src/rules.rt keeps its loop `i`.

use Rattle.std.proofs.Common.{◌∙◌, ◌==◌, ◌||◌, ◌-◌, ◌<◌, ◌≤◌, ap, sym, arith, cond, length, Some}
use Rattle.ls_orders.specs.Places.{is_marked as marked}
use Rattle.ls_orders.specs.Rules.{first_repeated}
use Rattle.ls_orders.proofs.RuleLemmas.{any_before, at, back, repeated_before}
use Rattle.ls_orders.proofs.rules.first_repeated.Goals as goal
use Rattle.ls_orders.proofs.rules.first_repeated.Goals.{then-is_marked, else-is_marked}

pub loop-i-preserved : goal.loop-i-preserved
loop-i-preserved c =
    let xs = c.args.order.now in
    let i = c.loop-i.i in
    let call = at xs (i - 1) in
    let some : 0 < i = omega arith in
    let le : i ≤ length xs = omega arith in
    let is = c.is_marked.ensures ∙ ap (λ xs. marked xs call.called) c.as_slice.ensures.value ∙
    c.loop-i.invariant.seen call.called in
    let before = repeated_before xs i some le in
    record {
      seen = λ k. c.in_ok-mark.ensures k ∙ ap (λ b. call.called == k || b) (c.loop-i.invariant.seen k) ∙
          sym (any_before (λ y. y.called == k) xs i some le);
      found = elim c.if-is_marked.branch [
        | then-is_marked w ↦ w.first-is ∙ ap (λ b. cond b (Some call) (first_repeated (back i xs)))
            (sym w.if-is_marked.true ∙ is) ∙ sym before
        | else-is_marked w ↦ w.first-is ∙ c.loop-i.invariant.found ∙
            ap (λ b. cond b (Some call) (first_repeated (back i xs))) (sym w.if-is_marked.false ∙ is) ∙ sym before
      ];
    }
