-- What the loop `handle` of `join_all` in src/follow.rt keeps.

use Rattle.std.proofs.Common.{◌≡◌, length, map, vec_capacity}
use Rattle.std.specs.Prelude.{All, IfNone, IfSome}
use Rattle.ls_live.specs.Ends.{IsFaultOf}
use Rattle.ls_live.specs.Turns.{AreOver, IsSeatOf}
use Rattle.ls_live.proofs.follow.join_all.Given as goal

abbrev pub invariant-loop-handle : goal.invariant-loop-handle
invariant-loop-handle g l = record {
  threads : map (λ c. c.thread) l.back.seats.items ≡ map (λ h. h.promise.thread) l.yielded;
  count : length l.back.seats.items ≡ length l.yielded;
  of : All (IsSeatOf l.followed.turnstile) l.back.seats.items;
  over : IfNone l.back.fault (AreOver l.followed.turnstile l.back.seats.items);
  fault : IfSome l.back.fault (IsFaultOf l.followed.turnstile);
  room : vec_capacity l.back.seats ≡ vec_capacity l.fn.left;
}
