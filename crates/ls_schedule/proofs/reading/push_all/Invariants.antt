-- What the loop `thread` of `push_all` in src/reading.rt keeps.

use Rattle.ls_events.specs.Limits.{most_steps}
use Rattle.std.proofs.Common.{◌≡◌, ◌++◌, ◌≤◌, length, take}
use Rattle.ls_schedule.proofs.reading.push_all.Given as goal

abbrev pub invariant-loop-thread : goal.invariant-loop-thread
invariant-loop-thread l = record {
  done : l.schedule ≡ l.fn.schedule ++ take l.thread-index l.threads;
  few : length l.schedule ≤ most_steps;
}
