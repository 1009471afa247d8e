-- What the loop `seat` of `with_rest` in src/follow.rt keeps.

use Rattle.std.proofs.Common.{◌≡◌, ◌++◌, vec_capacity}
use Rattle.ls_live.proofs.follow.with_rest.Given as goal

abbrev pub invariant-loop-seat : goal.invariant-loop-seat
invariant-loop-seat l = record {
  seats : l.seats.items ≡ l.fn.joined.seats.items ++ l.yielded;
  room : vec_capacity l.seats ≡ vec_capacity l.fn.joined.seats;
}
