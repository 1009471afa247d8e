-- Schedules whose calls run one at a time, and what they tell.
use Rattle.std.specs.Prelude.{ℕ, ◌<◌, List, [], Contains, length}
use Rattle.ls_checked.specs.CheckedTree.{File}
use Rattle.ls_checked.specs.CheckedProgram.{Program}
use Rattle.ls_meaning.specs.Runs.{source_history}
use Rattle.ls_serial.specs.Serial.{IsSerial}
use Rattle.ls_search_laws.specs.Stepping.{ActAll}
use Rattle.ls_serial_search.specs.Following.{IsFollowed}

-- each of them has a serial history
abbrev pub AreSerial : File → Program → List (List ℕ) → Type 0
AreSerial file program known = (schedule : List ℕ) → Contains known schedule →
    IsSerial (source_history file program schedule)

-- each step of each of them acts
abbrev pub AreActing : File → Program → List (List ℕ) → Type 0
AreActing file program known = (schedule : List ℕ) → Contains known schedule → ActAll file program schedule

-- the empty schedule is one of them, and after each of them the next call of each thread was followed
pub record IsSearched (file : File) (program : Program) (known : List (List ℕ)) : Type 0 where
  pub start : Contains known []
  pub serial : AreSerial file program known
  pub followed : (schedule : List ℕ) → Contains known schedule → (t : ℕ) → t < length program.threads →
      IsFollowed file program known schedule t
