-- Why `Machine::step` in src/machine.rt keeps its clauses `machine` and `did`.

use Rattle.std.proofs.Common.{ap, sym, ◌∙◌}
use Rattle.ls_code.specs.Machine.{Machine, machine_step}
use Rattle.ls_machine.proofs.machine.Machine.step.Goals as goal

pub returns-then-moves_silently-clause-did : goal.returns-then-moves_silently-clause-did
returns-then-moves_silently-clause-did c = sym (c.moves_silently.ensures.did c.if-moves_silently.true)

pub returns-clause-machine : goal.returns-clause-machine
returns-clause-machine c = c.acting_step.ensures.machine ∙ ap (λ (m : Machine). (machine_step m c.args.number).machine)
    (c.moves_silently.ensures.left c.if-moves_silently.false)

pub returns-clause-did : goal.returns-clause-did
returns-clause-did c = c.acting_step.ensures.did ∙ ap (λ (m : Machine). (machine_step m c.args.number).did)
    (c.moves_silently.ensures.left c.if-moves_silently.false)
