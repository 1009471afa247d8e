-- Why `Machine::take_step` in src/machine/running.rt keeps its contract.

use Rattle.std.proofs.Common.{[], sym, ap, ◌∙◌}
use Rattle.ls_code.specs.Machine.{Machine, machine_step}
use Rattle.ls_machine.proofs.machine.Machine.take_step.Goals as goal

pub returns : goal.returns
returns c = sym (c.take_turn.ensures []) ∙ ap (λ (m : Machine). (machine_step m c.args.number).machine)
    (c.moves_silently.ensures.left c.if-moves_silently.false)
