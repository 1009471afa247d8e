-- What the loop `thread` of `are_in_order` in src/running.rt keeps.

use Rattle.std.proofs.Common.{◌≡◌, ◌<◌, ℕ}
use Rattle.std.specs.Prelude.{slice_get, Some}
use Rattle.ls_live.specs.BookSeats.{Seat}
use Rattle.ls_live.proofs.running.are_in_order.Given as goal

abbrev pub invariant-loop-thread : goal.invariant-loop-thread
invariant-loop-thread g l = (i : ℕ) (s : Seat) → i < l.thread → slice_get l.seats i ≡ Some s → s.thread ≡ i
