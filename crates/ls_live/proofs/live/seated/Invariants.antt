-- What the loop `thread` of `seated` in src/live.rt keeps.

use Rattle.std.proofs.Common.{◌≡◌, ◌+◌, ◌<◌, ◌≤◌, ℕ, vec_len, vec_capacity}
use Rattle.std.specs.Prelude.{slice_get, Some}
use Rattle.ls_live.specs.BookSeats.{seat_of}
use Rattle.ls_live.specs.declared.book.Told.TheVariants.{Nothing}
use Rattle.ls_live.proofs.live.seated.Given as goal

abbrev pub invariant-loop-thread : goal.invariant-loop-thread
invariant-loop-thread g l = record {
  parts : l.rest.parts + l.thread ≡ l.count;
  amount : l.rest.amount ≡ 0;
  count : vec_len l.seats ≡ l.thread;
  room : l.count ≤ vec_capacity l.seats;
  seat : (t : ℕ) → t < l.thread → slice_get l.seats.items t ≡ Some (seat_of t 0 Nothing);
}
