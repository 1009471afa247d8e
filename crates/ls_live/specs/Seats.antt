-- Seats after their steps, and in order.
use Rattle.std.specs.Prelude.{◌≡◌, ℕ, ◌+◌, List, slice_get, Some, Bool, true, false}
use Rattle.ls_live.specs.BookSeats.{Seat, seat_of}
use Rattle.ls_live.specs.declared.book.More.{More}
use Rattle.ls_live.specs.declared.book.More.TheVariants as more
use Rattle.ls_live.specs.declared.book.Told.{Told}
use Rattle.ls_live.specs.declared.book.Told.TheVariants as told

-- how many steps were recorded
abbrev pub done_by : More → ℕ
done_by more.Over = 0
done_by more.Full = 0
done_by more.Later = 0
done_by (more.Did did) = 1

-- the seat after a step with this answer
abbrev pub seat_after : Seat → More → Seat
seat_after s more.Over = seat_of s.thread s.steps told.Over
seat_after s more.Full = seat_of s.thread s.steps told.Full
seat_after s more.Later = s
seat_after s (more.Did did) = seat_of s.thread (s.steps + 1) s.told

abbrev pub is_told : Told → Bool
is_told told.Nothing = false
is_told told.Over = true
is_told told.Full = true

-- one seat of each thread, in order
abbrev pub AreInOrder : List Seat → Type 0
AreInOrder seats = (i : ℕ) (s : Seat) → slice_get seats i ≡ Some s → s.thread ≡ i
