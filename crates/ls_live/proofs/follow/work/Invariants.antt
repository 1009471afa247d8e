-- What `work` in src/follow.rt keeps.

use Rattle.std.proofs.Common.{◌≡◌, ◌<◌}
use Rattle.ls_live.specs.Turns.{IsSeatOf}
use Rattle.ls_live.proofs.follow.work.Given as goal

abbrev pub invariant-loop : goal.invariant-loop
invariant-loop g l = record {
  of : IsSeatOf l.followed.turnstile l.seat;
  thread : l.seat.thread ≡ l.fn.seat.thread;
  tries : l.tries < 10000000;
}
