-- What `go_to` in src/aiming.rt keeps, and why it ends.

use Rattle.ls_events.specs.Limits.{most_steps}
use Rattle.std.proofs.Common.{◌≡◌, ◌≤◌, ◌-◌, length}
use Rattle.ls_aim.specs.Aims.{gone_to, room_after}
use Rattle.ls_aim.specs.Reading.{stop_of}
use Rattle.ls_aim.specs.Seen.{RunsNamed, names_in, run_in}
use Rattle.ls_aim.proofs.aiming.go_to.Given as goal

abbrev pub invariant-walk : goal.invariant-walk
invariant-walk l = record {
  names : names_in l.runner ≡ names_in l.fn.runner;
  runs : RunsNamed l.runner;
  few : length l.steps ≤ most_steps;
  gone : gone_to (names_in l.fn.runner) l.at l.target.thread (run_in l.runner) (stop_of l.stop) l.steps
      (room_after l.steps)
      ≡ gone_to (names_in l.fn.runner) l.at l.target.thread (run_in l.fn.runner) (stop_of l.target.stop) l.fn.steps
      (room_after l.fn.steps);
}

abbrev pub decreases-walk : goal.decreases-walk
decreases-walk l = most_steps - length l.steps
