-- What the loop `seat` of `follow_all` in src/follow.rt keeps.

use Rattle.std.proofs.Common.{◌≡◌, ◌+◌, ◌++◌, ◌≤◌, length, map, vec_capacity}
use Rattle.std.specs.Prelude.{All}
use Rattle.ls_live.specs.Turns.{IsSeatOf}
use Rattle.ls_live.proofs.follow.follow_all.Given as goal

abbrev pub invariant-loop-seat : goal.invariant-loop-seat
invariant-loop-seat g l = record {
  handles : All (λ h. h.promise.followed.now ≡ l.followed) l.handles.items;
  rest : All (IsSeatOf l.followed.turnstile) l.rest.items;
  threads : map (λ h. h.promise.thread) l.handles.items ++ map (λ c. c.thread) l.rest.items ≡ map (λ c. c.thread)
      l.yielded;
  count : length l.handles.items + length l.rest.items ≡ length l.yielded;
  room : length l.fn.seats.items ≤ vec_capacity l.handles;
  room_of_rest : length l.fn.seats.items ≤ vec_capacity l.rest;
}
