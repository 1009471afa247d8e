-- What searched schedules tell.
use Rattle.std.specs.Prelude.{◌≡◌, ◌⊎◌, ◌≤◌, ℕ, List, Contains, length}
use Rattle.ls_events.specs.Limits.{most_steps}
use Rattle.ls_checked.specs.CheckedTree.{File}
use Rattle.ls_checked.specs.CheckedProgram.{Program}
use Rattle.ls_meaning.specs.Runs.{source_history}
use Rattle.ls_serial.specs.Serial.{IsSerial}
use Rattle.ls_search_laws.specs.Stepping.{ActAll}
use Rattle.ls_serial_search.specs.Open.{HasLongCall}
use Rattle.ls_serial_search.specs.Searched.{IsSearched}

-- A call that goes on ends a run of so many steps, each of which acts. So a program has none whose runs are shorter.
abbrev pub LongCallsAreRuns : Type 0
LongCallsAreRuns =
    (file : File) (program : Program) (bound : ℕ) → HasLongCall file program bound →
    (run : List ℕ) × ActAll file program run × ((bound ≤ length run) ⊎ (most_steps ≤ length run))

-- one of the schedules has the history of this one
pub record HasHistoryOf (file : File) (program : Program) (known : List (List ℕ)) (schedule : List ℕ) : Type 0 where
  pub one : List ℕ
  pub there : Contains known one
  pub same : source_history file program schedule ≡ source_history file program one

-- each serial history of a schedule, of any length, is that of a searched one
abbrev pub SerialHistoriesAreKnown : Type 0
SerialHistoriesAreKnown =
    (file : File) (program : Program) (known : List (List ℕ)) → IsSearched file program known →
    (schedule : List ℕ) → IsSerial (source_history file program schedule) → HasHistoryOf file program known schedule
