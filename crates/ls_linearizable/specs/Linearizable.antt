-- Which histories are linearizable.
use Rattle.std.specs.Prelude.{◌≡◌, ◌↔◌, ℕ, List, ◌++◌, Contains}
use Rattle.ls_events.specs.declared.event.Event.{Event}
use Rattle.ls_checked.specs.CheckedTree.{File}
use Rattle.ls_checked.specs.CheckedProgram.{Program}
use Rattle.ls_meaning.specs.Runs.{source_history}
use Rattle.ls_serial.specs.Serial.{Explains, IsExplainedBy, IsSerial}
use Rattle.ls_serial.specs.Serial.{HaveBeginning}
use Rattle.ls_events.specs.Beginnings.{IsBeginning}

-- A history is linearizable if a schedule of the program has a serial history that explains it: the calls behave as if
-- they ran one at a time.
pub record IsLinearizable (file : File) (program : Program) (h : List Event) : Type 0 where
  pub schedule : List ℕ
  pub serial : IsSerial (source_history file program schedule)
  pub explains : Explains (source_history file program schedule) h

-- ---- beginnings

-- each beginning of a schedule's history is the history of a beginning of the schedule
abbrev pub BeginningsAreHistories : Type 0
BeginningsAreHistories =
    (file : File) (program : Program) (schedule : List ℕ) (h : List Event) →
    IsBeginning h (source_history file program schedule) →
    (first rest : List ℕ) × (first ++ rest ≡ schedule) × (source_history file program first ≡ h)

-- each beginning of a linearizable history is linearizable
abbrev pub BeginningsAreLinearizable : Type 0
BeginningsAreLinearizable =
    (file : File) (program : Program) (h g : List Event) → IsBeginning h g → IsLinearizable file program g →
    IsLinearizable file program h

-- ---- runs that tell of schedules

-- each of the runs is the history of a schedule
abbrev pub AreTrue : File → Program → List (List Event) → Type 0
AreTrue file program runs = (run : List Event) → Contains runs run →
    (schedule : List ℕ) × (run ≡ source_history file program schedule)

-- what one of the runs explains is linearizable
abbrev pub ExplainedIsLinearizable : Type 0
ExplainedIsLinearizable =
    (file : File) (program : Program) (runs : List (List Event)) → AreTrue file program runs →
    (h : List Event) → IsExplainedBy runs h → IsLinearizable file program h

-- Where a schedule has a serial history that explains h, and one of the runs begins with it, one of them explains h.
abbrev pub ToldIsExplained : Type 0
ToldIsExplained =
    (file : File) (program : Program) (runs : List (List Event)) (h : List Event) (schedule : List ℕ) →
    IsSerial (source_history file program schedule) → Explains (source_history file program schedule) h →
    HaveBeginning runs (source_history file program schedule) → IsExplainedBy runs h

-- each serial history of a schedule is one with which a run begins
abbrev pub TellSerial : File → Program → List (List Event) → Type 0
TellSerial file program runs = (schedule : List ℕ) → IsSerial (source_history file program schedule) →
    HaveBeginning runs (source_history file program schedule)

-- Where the runs are histories of schedules, and each serial history begins one of them, they explain exactly what is
-- linearizable.
abbrev pub SerialRunsDecide : Type 0
SerialRunsDecide =
    (file : File) (program : Program) (runs : List (List Event)) → AreTrue file program runs →
    TellSerial file program runs → (h : List Event) → IsLinearizable file program h ↔ IsExplainedBy runs h

-- where each of the runs is linearizable, so is each history with which one of them begins
abbrev pub BegunIsLinearizable : Type 0
BegunIsLinearizable =
    (file : File) (program : Program) (runs : List (List Event)) →
    ((run : List Event) → Contains runs run → IsLinearizable file program run) →
    (h : List Event) → HaveBeginning runs h → IsLinearizable file program h
