-- What rows tell of linearizability.
use Rattle.std.specs.Prelude.{◌≡◌, ℕ, Bool, false, not, List, Some, Contains, filter, length, slice_get}
use Rattle.ls_events.specs.declared.event.Event.{Event}
use Rattle.ls_checked.specs.CheckedTree.{File}
use Rattle.ls_checked.specs.CheckedProgram.{Program}
use Rattle.ls_meaning.specs.Runs.{source_history}
use Rattle.ls_preservation.specs.Same.{Fits}
use Rattle.ls_serial.specs.Serial.{Explains, IsSerial}
use Rattle.ls_linearizable.specs.Linearizable.{IsLinearizable}
use Rattle.ls_explore.specs.Rows.{Told}
use Rattle.ls_explore.specs.Tellings.{TellAll, TellTruth, TellWhole}
use Rattle.ls_explore_reports.specs.Rows.{RowsExplain, TellExplained}

-- ---- one history

-- What the rows explain is linearizable, whether they are complete or cut.
abbrev pub ExplainedIsLinearizable : Type 0
ExplainedIsLinearizable =
    (file : File) (program : Program) (k : ℕ) (rows : List Told) (h : List Event) → TellTruth file program k rows →
    RowsExplain rows h → IsLinearizable file program h

-- Where the rows tell of every schedule, they explain what is linearizable.
abbrev pub LinearizableIsExplained : Type 0
LinearizableIsExplained =
    (file : File) (program : Program) (rows : List Told) (h : List Event) → TellWhole file program rows →
    IsLinearizable file program h → RowsExplain rows h

-- a schedule that fits so many cells has a serial history that explains h
pub record IsLinearizableWithin (file : File) (program : Program) (cells : ℕ) (h : List Event) : Type 0 where
  pub schedule : List ℕ
  pub fits : Fits file program cells schedule
  pub serial : IsSerial (source_history file program schedule)
  pub explains : Explains (source_history file program schedule) h

-- Where they tell of each schedule that fits the cells, they explain what such a schedule explains.
abbrev pub FittingIsExplained : Type 0
FittingIsExplained =
    (file : File) (program : Program) (cells : ℕ) (rows : List Told) (h : List Event) →
    TellAll file program cells rows → IsLinearizableWithin file program cells h → RowsExplain rows h

-- ---- all schedules

abbrev pub RowsAreLinearizable : File → Program → List Told → Type 0
RowsAreLinearizable file program rows = (r : Told) → Contains rows r → IsLinearizable file program r.history

-- Complete rows that are linearizable: so is the history of each schedule of source steps that fits the cells, of any
-- length.
abbrev pub EachThatFitsIsLinearizable : Type 0
EachThatFitsIsLinearizable =
    (file : File) (program : Program) (cells : ℕ) (rows : List Told) → TellAll file program cells rows →
    RowsAreLinearizable file program rows
    → (schedule : List ℕ) → Fits file program cells schedule →
    IsLinearizable file program (source_history file program schedule)

-- So is that of each schedule, where no schedule runs out of cells.
abbrev pub EachIsLinearizable : Type 0
EachIsLinearizable =
    (file : File) (program : Program) (rows : List Told) → TellWhole file program rows →
    RowsAreLinearizable file program rows
    → (schedule : List ℕ) → IsLinearizable file program (source_history file program schedule)

-- ---- the last line of a report

-- how many of the rows no serial run explains
abbrev pub count_unexplained : List Bool → ℕ
count_unexplained flags = length (filter not flags)

-- Where it says `not linearizable 0 complete in these cells`: the history of each schedule that fits the cells is
-- linearizable.
abbrev pub NoneUnexplainedThatFits : Type 0
NoneUnexplainedThatFits =
    (file : File) (program : Program) (k cells : ℕ) (rows : List Told) (flags : List Bool) →
    TellTruth file program k rows → TellAll file program cells rows →
    TellExplained rows flags → count_unexplained flags ≡ 0
    → (schedule : List ℕ) → Fits file program cells schedule →
    IsLinearizable file program (source_history file program schedule)

-- Where it says `not linearizable 0 complete`, that of each schedule is.
abbrev pub NoneUnexplained : Type 0
NoneUnexplained =
    (file : File) (program : Program) (k : ℕ) (rows : List Told) (flags : List Bool) →
    TellTruth file program k rows → TellWhole file program rows →
    TellExplained rows flags → count_unexplained flags ≡ 0
    → (schedule : List ℕ) → IsLinearizable file program (source_history file program schedule)

-- Where it says `complete`, a row that no serial run explains is not linearizable.
abbrev pub UnexplainedIsNot : Type 0
UnexplainedIsNot =
    (file : File) (program : Program) (rows : List Told) (flags : List Bool) (i : ℕ) (r : Told) →
    TellWhole file program rows → TellExplained rows flags →
    slice_get rows i ≡ Some r → slice_get flags i ≡ Some false → IsLinearizable file program r.history → ⊥
