-- Why `places_of` in src/rules.rt keeps its loop `call`.

use Rattle.std.proofs.Common.{◌∙◌, ◌==◌, ◌||◌, ap, sym}
use Rattle.ls_orders.proofs.RuleLemmas.{any_more, at}
use Rattle.ls_orders.proofs.rules.places_of.Goals as goal

pub loop-call-preserved : goal.loop-call-preserved
loop-call-preserved c = λ k.
    let xs = c.args.order.now in
    let i = c.loop-call.call-index in
    c.in_ok-mark.ensures k ∙ ap (λ b. (at xs i).called == k || b) (c.loop-call.invariant k) ∙
    sym (any_more (λ y. y.called == k) xs i c.loop-call-test.true)
