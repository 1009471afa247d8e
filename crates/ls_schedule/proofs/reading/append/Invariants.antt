-- What `append` in src/reading.rt keeps.

use Rattle.ls_events.specs.Limits.{most_steps}
use Rattle.std.proofs.Common.{◌≡◌, ◌++◌, ◌≤◌, length}
use Rattle.ls_schedule.specs.Reading.{repeated}
use Rattle.ls_schedule.proofs.reading.append.Given as goal

abbrev pub invariant-loop : goal.invariant-loop
invariant-loop l = record {
  done : l.schedule ≡ l.fn.schedule ++ repeated l.counter l.threads;
  few : length l.schedule ≤ most_steps;
}
