-- What the loop `at` of `Machine::run` in src/machine/running.rt keeps, and why the loop ends.

use Rattle.std.proofs.Common.{◌≡◌, ◌-◌, drop, length}
use Rattle.ls_code.specs.Machine.{machine_run}
use Rattle.ls_machine.proofs.machine.Machine.run.Given as goal

abbrev pub invariant-loop-at : goal.invariant-loop-at
invariant-loop-at l = machine_run l.self (drop l.at l.steps) ≡ machine_run l.initial.self l.steps

abbrev pub decreases-loop-at : goal.decreases-loop-at
decreases-loop-at l = length l.steps - l.at
