-- What the loop `at` of `same_until` in src/machine/running.rt keeps.

use Rattle.std.proofs.Common.{◌≡◌, ◌-◌, drop}
use Rattle.ls_machine.specs.Staying.{turns}
use Rattle.ls_machine.proofs.machine.running.same_until.Given as goal

abbrev pub invariant-loop-at : goal.invariant-loop-at
invariant-loop-at l = drop l.from l.steps ≡ turns (l.at - l.from) l.number (drop l.at l.steps)
