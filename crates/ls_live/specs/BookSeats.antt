-- Seats as contracts see them, and when one agrees with a record.
use Rattle.std.specs.Prelude.{ℕ, ◌==◌, ◌&&◌, List, length, count_by, Bool, true}
use Rattle.ls_code.specs.Machine.{Machine, machine_run}
use Rattle.ls_live.specs.Answers.{is_over}
use Rattle.ls_live.specs.declared.book.Told.{Told}
use Rattle.ls_live.specs.declared.book.Told.TheVariants as told

-- the thread of a seat, how many steps the seat made, and which it was told last, Over or Full
pub record Seat : Type 0 where
  pub thread : ℕ
  pub steps : ℕ
  pub told : Told

abbrev pub seat_of : ℕ → ℕ → Told → Seat
seat_of t n last = record { thread = t; steps = n; told = last }

-- what the seat of thread t was told is so after the schedule
abbrev pub told_agrees : Machine → ℕ → List ℕ → ℕ → Told → Bool
told_agrees start limit schedule t told.Nothing = true
told_agrees start limit schedule t told.Over = is_over (machine_run start schedule) t
told_agrees start limit schedule t told.Full = length schedule == limit

-- the seat's steps are the entries of its thread, and what the seat was told is so after the schedule
unfoldable pub agrees : Machine → ℕ → List ℕ → Seat → Bool
agrees start limit schedule s =
    (count_by (λ t. t == s.thread) schedule == s.steps) && told_agrees start limit schedule s.thread s.told
