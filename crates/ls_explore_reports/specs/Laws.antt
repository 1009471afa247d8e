-- What the last line tells.
use Rattle.std.specs.Prelude.{◌≡◌, ◌&&◌, ℕ, Bool, true, List, All}
use Rattle.ls_checked.specs.CheckedTree.{File}
use Rattle.ls_checked.specs.CheckedProgram.{Program}
use Rattle.ls_events.specs.declared.value.Value.{Value}
use Rattle.ls_events.specs.declared.action.Action.{Action}
use Rattle.ls_meaning.specs.Runs.{State, asked, source_history}
use Rattle.ls_meaning.specs.declared.step.Asked.TheVariants.{Asks}
use Rattle.ls_meaning.specs.Still.{IsOver}
use Rattle.ls_preservation.specs.Same.{Fits}
use Rattle.ls_explore.specs.Rows.{Told}
use Rattle.ls_explore.specs.Tellings.{TellAll, TellTruth, TellWhole}
use Rattle.ls_explore_reports.specs.Linearizable.{RowsAreLinearizable}
use Rattle.ls_explore_reports.specs.Verdicts.{HasLegalOrder}
use Rattle.ls_explore_reports.specs.Waiting.{WaitsFor}
use Rattle.ls_linearizable.specs.Linearizable.{IsLinearizable}
use Rattle.ls_explore_reports.specs.Judged.{AreMeant, IsJudged, IsToldLinear, Judged, are_decided, are_known}
use Rattle.ls_explore_reports.specs.Judged.{count_illegal}
use Rattle.ls_explore_reports.specs.Judged.{count_not_linearizable, rows_of}

-- Where it says `illegal 0 complete in these cells`, the history of each schedule of the program that fits the cells
-- has a legal order.
abbrev pub NoneIllegalThatFits : Type 0
NoneIllegalThatFits =
    (file : File) (program : Program) (cells : ℕ) (judged : List Judged) → All (IsJudged program) judged →
    are_decided judged ≡ true → count_illegal judged ≡ 0
    → TellAll file program cells (rows_of judged) → (schedule : List ℕ) → Fits file program cells schedule →
    HasLegalOrder program (source_history file program schedule)

-- Where it says `illegal 0 complete`, the history of each schedule of the program has one.
abbrev pub NoneIllegal : Type 0
NoneIllegal =
    (file : File) (program : Program) (judged : List Judged) → All (IsJudged program) judged →
    are_decided judged ≡ true → count_illegal judged ≡ 0
    → TellWhole file program (rows_of judged) → (schedule : List ℕ) →
    HasLegalOrder program (source_history file program schedule)

-- Where it says `not linearizable 0 complete in these cells`, the history of each schedule of the program that fits the
-- cells is linearizable.
abbrev pub NoneIsNotLinearizableThatFits : Type 0
NoneIsNotLinearizableThatFits =
    (file : File) (program : Program) (k cells : ℕ) (whole : Bool) (judged : List Judged) →
    All (IsToldLinear file program whole (rows_of judged)) judged →
    are_known judged ≡ true → count_not_linearizable judged ≡ 0 → TellTruth file program k (rows_of judged)
    → TellAll file program cells (rows_of judged) → (schedule : List ℕ) → Fits file program cells schedule →
    IsLinearizable file program (source_history file program schedule)

-- Where it says `not linearizable 0 complete`, that of each schedule of the program is.
abbrev pub NoneIsNotLinearizable : Type 0
NoneIsNotLinearizable =
    (file : File) (program : Program) (k : ℕ) (whole : Bool) (judged : List Judged) →
    All (IsToldLinear file program whole (rows_of judged)) judged →
    are_known judged ≡ true → count_not_linearizable judged ≡ 0 → TellTruth file program k (rows_of judged)
    → TellWhole file program (rows_of judged) → (schedule : List ℕ) →
    IsLinearizable file program (source_history file program schedule)

-- Of rows that are judged by a specification: where each is known, and none isn't linearizable to it, and they tell of
-- every schedule, so is the history of each schedule.
abbrev pub NoneIsUnlike : Type 0
NoneIsUnlike =
    (sfile : File) (sprogram : Program) (file : File) (program : Program) (judged : List Judged) →
    AreMeant sfile sprogram judged → are_known judged ≡ true → count_not_linearizable judged ≡ 0
    → TellWhole file program (rows_of judged) → (schedule : List ℕ) →
    IsLinearizable sfile sprogram (source_history file program schedule)

-- The same, where they tell of every schedule that fits the cells.
abbrev pub NoneIsUnlikeThatFits : Type 0
NoneIsUnlikeThatFits =
    (sfile : File) (sprogram : Program) (file : File) (program : Program) (cells : ℕ) (judged : List Judged) →
    AreMeant sfile sprogram judged → are_known judged ≡ true → count_not_linearizable judged ≡ 0
    → TellAll file program cells (rows_of judged) → (schedule : List ℕ) → Fits file program cells schedule →
    IsLinearizable sfile sprogram (source_history file program schedule)

-- Where the rows tell of every schedule, and the history of each is linearizable to a specification, so is that of each
-- schedule.
abbrev pub EachIsLike : Type 0
EachIsLike =
    (sfile : File) (sprogram : Program) (file : File) (program : Program) (rows : List Told) →
    TellWhole file program rows → RowsAreLinearizable sfile sprogram rows → (schedule : List ℕ) →
    IsLinearizable sfile sprogram (source_history file program schedule)

-- A row that is said to be linearizable is so, and one that is said not to be linearizable isn't.
abbrev pub LinearityIsMeant : Type 0
LinearityIsMeant =
    (file : File) (program : Program) (k : ℕ) (complete roomy : Bool) (judged : List Judged) →
    TellTruth file program k (rows_of judged) →
    (complete ≡ true → roomy ≡ true → TellWhole file program (rows_of judged)) →
    All (IsToldLinear file program (complete && roomy) (rows_of judged)) judged → AreMeant file program judged

-- Where no thread acts, each thread that asks for an action waits for what another thread owns.
abbrev pub AllWaitForOthers : Type 0
AllWaitForOthers =
    (file : File) (program : Program) (s : State) (t : ℕ) (action : Action Value) → IsOver file program s →
    asked file program s t ≡ Asks action →
    WaitsFor s.store t action
