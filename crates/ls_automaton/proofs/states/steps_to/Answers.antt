-- Why `steps_to` in src/states.rt keeps its contract.

use Rattle.std.proofs.Common.{◌≡◌, ◌∙◌, Some, ap, rules, sym}
use Rattle.ls_automaton.proofs.Filled.{next_steps}
use Rattle.ls_automaton.proofs.states.steps_to.Goals as goal

pub returns : goal.returns
returns c =
    let is : c.in_ok-steps.steps.items ≡ c.index-spots-number.result.steps.items = search rules in
    next_steps c.args.spots.now c.args.number c.index-spots-number.result c.requires c.index-spots-number.is
    ∙ ap Some (sym is)
