-- What the loop `left` of `Machine::take_turn` in src/machine/running.rt keeps, and why the loop ends.

use Rattle.std.proofs.Common.{◌≡◌, ℕ, List}
use Rattle.ls_code.specs.Machine.{machine_run}
use Rattle.ls_machine.specs.Staying.{turns}
use Rattle.ls_machine.proofs.machine.Machine.take_turn.Given as goal

abbrev pub invariant-loop-left : goal.invariant-loop-left
invariant-loop-left l = (rest : List ℕ) → machine_run l.self (turns l.left l.number rest) ≡ machine_run l.initial.self
    (turns l.initial.left l.number rest)

abbrev pub decreases-loop-left : goal.decreases-loop-left
decreases-loop-left l = l.left
