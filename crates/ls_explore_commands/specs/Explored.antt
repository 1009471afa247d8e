-- What the command `explore` says.
use Rattle.std.specs.Prelude.{◌≡◌, ◌&&◌, ◌≤◌, ℕ, Bool, true, false, List, Option, Some, All, IsSorted}
use Rattle.std.specs.Prelude.{Result, Ok, Err}
use Rattle.ls_machine.specs.Room.{AreBadCells}
use Rattle.ls_meaning.specs.Runs.{source_history}
use Rattle.ls_image.specs.Images.{code_of_image}
use Rattle.ls_image.specs.declared.image.Image.{Image}
use Rattle.ls_search.specs.Verdicts.{IsCut}
use Rattle.ls_translation.specs.Texts.{file_of, program_of}
use Rattle.ls_translation.specs.declared.fault.TranslationFault.{TranslationFault}
use Rattle.ls_translation.specs.declared.fault.TranslationFault.TheVariants as translation
use Rattle.ls_explore.specs.Rows.{AreApart, TellStates, row_order}
use Rattle.ls_linearizable.specs.Linearizable.{IsLinearizable}
use Rattle.ls_preservation.specs.Same.{Fits}
use Rattle.ls_explore_reports.specs.Verdicts.{HasLegalOrder}
use Rattle.ls_explore.specs.Faults.{AreBadStates, AreGood, StaysSource}
use Rattle.ls_explore.specs.Settings.{GoesOnFor, StopsAt}
use Rattle.ls_explore.specs.Tellings.{TellTruth, TellWhole}
use Rattle.ls_explore.specs.declared.fault.ExploreFault.TheVariants as explore
use Rattle.ls_report.specs.Events.{Text}
use Rattle.ls_faults.specs.declared.fault.ToolFault.{ToolFault}
use Rattle.ls_faults.specs.declared.fault.ToolFault.TheVariants as faults
use Rattle.ls_commands.specs.Compiled.{AnswersOn, names_of_image}
use Rattle.ls_explore_reports.specs.Cuts.{IsExploredText}
use Rattle.ls_explore_reports.specs.declared.printing.Exploring.{Exploring}
use Rattle.ls_explore_reports.specs.Judged.{AreMeant, IsJudged, IsToldBelow, IsToldLinear, Judged, are_decided}
use Rattle.ls_explore_reports.specs.Judged.{are_known, count_illegal, count_not_linearizable, rows_of}
use Rattle.ls_explore_reports.specs.ImageNames.{names_in}
use Rattle.ls_explore_reports.specs.Long.{HasLong}
use Rattle.ls_explore_commands.specs.Finding.{AreGoodFor, HasGoodCells, TellBy}

-- Rows that tell the truth, the shortest schedule first, no two with one history, each with its verdict, and with what
-- the rows and the serial runs say of its linearizability. Below each is what the command `order` tells of its history,
-- if orders are asked for. Each of so many states has a row, and each row a state. If a number of cells is asked for,
-- each row's schedule fits, and where they are complete they tell of all schedules that fit; where no schedule runs out
-- of cells, of all. Where they are cut, as many states were kept as may be, or the states have over 4,194,304 objects
-- together.
pub record IsExploration (i : Image) (count : Option ℕ) (limit : ℕ) (orders : Bool) (k : ℕ) (judged : List Judged)
    (kept : ℕ) (complete roomy : Bool) : Type 0 where
  pub truth : TellTruth (file_of i) (program_of i) k (rows_of judged)
  pub states : TellStates (file_of i) (program_of i) k (rows_of judged) kept
  pub few : kept ≤ limit
  pub cut : complete ≡ false → IsCut (file_of i) (program_of i) limit k kept
  pub by : TellBy count (file_of i) (program_of i) limit k (rows_of judged) kept complete roomy
  pub whole : complete ≡ true → roomy ≡ true → TellWhole (file_of i) (program_of i) (rows_of judged)
  pub apart : AreApart (rows_of judged)
  pub order : IsSorted row_order (rows_of judged)
  pub verdicts : All (IsJudged (program_of i)) judged
  pub linear : All (IsToldLinear (file_of i) (program_of i) (complete && roomy) (rows_of judged)) judged
  pub meant : AreMeant (file_of i) (program_of i) judged
  pub below : All (IsToldBelow orders (file_of i) (program_of i)) judged
  -- what `illegal 0` and `not linearizable 0` say beside `complete`
  pub none_illegal : complete ≡ true → roomy ≡ true → are_decided judged ≡ true → count_illegal judged ≡ 0 →
      (schedule : List ℕ) → HasLegalOrder (program_of i) (source_history (file_of i) (program_of i) schedule)
  pub all_linearizable : complete ≡ true → roomy ≡ true → are_known judged ≡ true → count_not_linearizable judged ≡ 0 →
      (schedule : List ℕ) →
      IsLinearizable (file_of i) (program_of i) (source_history (file_of i) (program_of i) schedule)
  -- and beside `complete in these cells`
  pub none_illegal_fits : (cells : ℕ) → count ≡ Some cells → complete ≡ true → are_decided judged ≡ true →
      count_illegal judged ≡ 0 →
      (schedule : List ℕ) →
      Fits (file_of i) (program_of i) cells schedule →
      HasLegalOrder (program_of i) (source_history (file_of i) (program_of i) schedule)
  pub all_linearizable_fits : (cells : ℕ) → count ≡ Some cells → complete ≡ true → are_known judged ≡ true →
      count_not_linearizable judged ≡ 0 →
      (schedule : List ℕ) →
      Fits (file_of i) (program_of i) cells schedule →
      IsLinearizable (file_of i) (program_of i) (source_history (file_of i) (program_of i) schedule)

-- the text of an exploration; or why there is none
pub data Explored (i : Image) (e : Exploring) : Result Text ToolFault → Type 0 where
  Tells : (k : ℕ) (judged : List Judged) (kept : ℕ) (complete roomy : Bool) (text : Text) →
      AreGoodFor (code_of_image i) e.cells e.states →
      IsExploration i e.cells e.states e.order k judged kept complete roomy →
      IsExploredText (names_in i) (names_of_image i) k judged kept complete roomy e text → Explored i e (Ok text)
  NoCells : (cells : ℕ) → e.cells ≡ Some cells → AreBadCells (code_of_image i).names cells →
      Explored i e (Err faults.BadCells)
  NoStates : HasGoodCells (code_of_image i) e.cells →
      AreBadStates e.states →
      Explored i e (Err (faults.Explore explore.BadStates))
  Endless : AreGoodFor (code_of_image i) e.cells e.states →
      GoesOnFor (file_of i) (program_of i) 100001 →
      Explored i e (Err (faults.Explore explore.SetupEndless))
  -- what the setup makes has no room, or its instructions are more than a schedule may have
  NotTranslated : (cells k : ℕ) (f : TranslationFault) →
      e.cells ≡ Some cells →
      AreGood (code_of_image i) cells e.states →
      StopsAt (file_of i) (program_of i) k →
      StaysSource (file_of i) (program_of i) (code_of_image i) cells k f →
      Explored i e (Err (faults.Translation f))
  -- so are the steps of a row
  RowTooLong : (k : ℕ) (judged : List Judged) (kept : ℕ) (complete roomy : Bool) →
      AreGoodFor (code_of_image i) e.cells e.states →
      IsExploration i e.cells e.states e.order k judged kept complete roomy → HasLong k (rows_of judged) →
      Explored i e (Err (faults.Translation translation.ResultTooLong))

abbrev pub ExploresTo : Exploring → Text → Text → Result Text ToolFault → Type 0
ExploresTo e classes program answer = AnswersOn classes program (λ i. Explored i e) answer
