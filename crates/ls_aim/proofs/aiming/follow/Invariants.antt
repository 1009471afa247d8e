-- What the loop `thread` of `follow` in src/aiming.rt keeps.

use Rattle.ls_events.specs.Limits.{most_steps}
use Rattle.std.proofs.Common.{◌≡◌, ◌++◌, ◌≤◌, length, take}
use Rattle.ls_aim.proofs.aiming.follow.Given as goal

abbrev pub invariant-loop-thread : goal.invariant-loop-thread
invariant-loop-thread l = record {
  done : l.steps ≡ l.fn.steps ++ take l.thread-index l.more;
  few : length l.steps ≤ most_steps;
}
