-- What the loop `index` of `push_again` in src/repeating.rt keeps.

use Rattle.ls_events.specs.Limits.{most_steps}
use Rattle.std.proofs.Common.{◌≡◌, ◌++◌, ◌≤◌, length, take, drop}
use Rattle.ls_schedule.proofs.repeating.push_again.Given as goal

abbrev pub invariant-loop-index : goal.invariant-loop-index
invariant-loop-index l = record {
  done : l.schedule ≡ l.fn.schedule ++ take l.index (drop l.from l.fn.schedule);
  few : length l.schedule ≤ most_steps;
}
