-- Why `set_after` in src/held.rt keeps its loop `call`.

use Rattle.std.proofs.Common.{◌∙◌, ap, get_or, sym}
use Rattle.ls_orders.specs.Rules.{after_call}
use Rattle.ls_orders.proofs.RuleLemmas.{no_call}
use Rattle.ls_explanations.proofs.HeldLemmas.{present_taken}
use Rattle.ls_explanations.proofs.held.set_after.Goals as goal

pub loop-call-preserved : goal.loop-call-preserved
loop-call-preserved c = λ item.
    let calls = c.args.calls.now in
    let i = c.loop-call.call-index in
    c.in_ok-apply.ensures item ∙ ap (λ b. after_call item b (get_or calls i no_call)) (c.loop-call.invariant item)
    ∙ sym (present_taken item calls i c.loop-call-test.true)
