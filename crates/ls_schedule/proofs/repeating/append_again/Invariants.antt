-- What `append_again` in src/repeating.rt keeps.

use Rattle.ls_events.specs.Limits.{most_steps}
use Rattle.std.proofs.Common.{◌≡◌, ◌++◌, ◌≤◌, length, drop}
use Rattle.ls_schedule.specs.Reading.{repeated}
use Rattle.ls_schedule.proofs.repeating.append_again.Given as goal

abbrev pub invariant-loop : goal.invariant-loop
invariant-loop l = record {
  done : l.schedule ≡ l.fn.schedule ++ repeated l.counter (drop l.from l.fn.schedule);
  few : length l.schedule ≤ most_steps;
}
