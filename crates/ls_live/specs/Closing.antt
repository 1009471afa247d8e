-- How a live run is closed.
use Rattle.std.specs.Prelude.{◌≡◌, ℕ, ◌<◌, List, length, sum_by, Bool, false}
use Rattle.std.specs.List.{list_all}
use Rattle.ls_code.specs.Machine.{Machine}
use Rattle.ls_schedule.specs.Records.{scheduled}
use Rattle.ls_schedule.specs.declared.replaying.Record.{Record}
use Rattle.ls_live.specs.BookRecords.{IsRecordFrom}
use Rattle.ls_live.specs.BookSeats.{Seat, agrees}
use Rattle.ls_live.specs.declared.book.Session.{Ghosts}
use Rattle.ls_live.specs.declared.live.CloseFault.{CloseFault}
use Rattle.ls_live.specs.declared.live.CloseFault.TheVariants.{Missing, Disagree}

-- All seats of a run are given. The record has as many steps as the seats made. `agree` says whether each seat agrees
-- with the record.
pub record IsClosed (start : Machine) (limit seats : ℕ) (given : List Seat) (agree : Bool) (kept : Record) : Type 0
  where
    pub whole : length given ≡ seats
    pub record_from : IsRecordFrom start limit kept
    pub counted : length (scheduled kept) ≡ sum_by (λ s. s.steps) given
    pub agreed : list_all (agrees start limit (scheduled kept)) given ≡ agree

module _ {L : Type 0} {g : Ghosts L} where
  -- Fewer seats are given than the run has, or a seat disagrees with the record. The seats are given back as they
  -- were.
  abbrev pub IsNotClosed : Machine → ℕ → ℕ → List Seat → CloseFault L g → Type 0
  IsNotClosed start limit seats given (Missing live back) = (length given < seats) × (back.items ≡ given)
  IsNotClosed start limit seats given (Disagree kept back) = IsClosed start limit seats given false kept ×
      (back.items ≡ given)
