-- What is answered of a program by a specification.
use Rattle.std.specs.Prelude.{◌≡◌, ◌++◌, ◌≤◌, ℕ, Bool, true, false, List, Option, Some, All, IsSorted, Result, Ok, Err}
use Rattle.ls_commands.specs.Likeness.{AnswersLike}
use Rattle.ls_commands.specs.Compiled.{AnswersOn, names_of_image}
use Rattle.ls_explore.specs.Faults.{AreBadStates, AreGood, StaysSource}
use Rattle.ls_explore.specs.Rows.{AreApart, TellStates, row_order}
use Rattle.ls_explore.specs.Settings.{GoesOnFor, StopsAt}
use Rattle.ls_explore.specs.Tellings.{TellTruth, TellWhole}
use Rattle.ls_explore.specs.declared.fault.ExploreFault.TheVariants as explore
use Rattle.ls_explore_commands.specs.Verdicts.{Decided}
use Rattle.ls_explore_commands.specs.Finding.{AreGoodFor, HasGoodCells, TellBy}
use Rattle.ls_explore_reports.specs.ImageNames.{names_in}
use Rattle.ls_explore_reports.specs.Judged.{AreMeant, IsToldBelowLike, Judged, SaysNoSet, are_known}
use Rattle.ls_explore_reports.specs.Judged.{count_not_linearizable, rows_of}
use Rattle.ls_explore_reports.specs.Long.{HasLong}
use Rattle.ls_explore_reports.specs.Printing.{last_text, rows_text, shown}
use Rattle.ls_explore_reports.specs.declared.printing.Exploring.{Exploring}
use Rattle.ls_faults.specs.declared.fault.ToolFault.{ToolFault}
use Rattle.ls_faults.specs.declared.fault.ToolFault.TheVariants as faults
use Rattle.ls_image.specs.Images.{code_of_image}
use Rattle.ls_image.specs.declared.image.Image.{Image}
use Rattle.ls_linearizable.specs.Linearizable.{IsLinearizable}
use Rattle.ls_machine.specs.Room.{AreBadCells}
use Rattle.ls_meaning.specs.Runs.{source_history}
use Rattle.ls_preservation.specs.Same.{Fits}
use Rattle.ls_report.specs.Events.{Text}
use Rattle.ls_search.specs.Verdicts.{IsCut}
use Rattle.ls_translation.specs.Texts.{file_of, program_of}
use Rattle.ls_translation.specs.declared.fault.TranslationFault.{TranslationFault}
use Rattle.ls_translation.specs.declared.fault.TranslationFault.TheVariants as translation

-- ---- explorations

-- Rows as those of an exploration, each with what the serial runs of a specification say of its history, and nothing of
-- it as one of a set. Where they are complete, and each is known to be linearizable to it, the history of each schedule
-- of the program is; or of each that fits the cells, where the rows are complete in these.
pub record IsExplorationLike (s i : Image) (count : Option ℕ) (limit : ℕ) (orders : Bool) (k : ℕ) (judged : List Judged)
    (kept : ℕ) (complete roomy : Bool) : Type 0 where
  pub truth : TellTruth (file_of i) (program_of i) k (rows_of judged)
  pub states : TellStates (file_of i) (program_of i) k (rows_of judged) kept
  pub few : kept ≤ limit
  pub cut : complete ≡ false → IsCut (file_of i) (program_of i) limit k kept
  pub by : TellBy count (file_of i) (program_of i) limit k (rows_of judged) kept complete roomy
  pub whole : complete ≡ true → roomy ≡ true → TellWhole (file_of i) (program_of i) (rows_of judged)
  pub apart : AreApart (rows_of judged)
  pub order : IsSorted row_order (rows_of judged)
  pub meant : AreMeant (file_of s) (program_of s) judged
  pub sets : All SaysNoSet judged
  pub below : All (IsToldBelowLike orders (file_of s) (program_of s)) judged
  -- what `not linearizable 0` says beside `complete`
  pub all_like : complete ≡ true → roomy ≡ true → are_known judged ≡ true → count_not_linearizable judged ≡ 0 →
      (schedule : List ℕ) →
      IsLinearizable (file_of s) (program_of s) (source_history (file_of i) (program_of i) schedule)
  -- and beside `complete in these cells`
  pub all_like_fits : (cells : ℕ) → count ≡ Some cells → complete ≡ true → are_known judged ≡ true →
      count_not_linearizable judged ≡ 0 →
      (schedule : List ℕ) →
      Fits (file_of i) (program_of i) cells schedule →
      IsLinearizable (file_of s) (program_of s) (source_history (file_of i) (program_of i) schedule)

-- the text of such an exploration; or why there is none
pub data ExploredLike (s i : Image) (e : Exploring) : Result Text ToolFault → Type 0 where
  Tells : (k : ℕ) (judged : List Judged) (kept : ℕ) (complete roomy : Bool) →
      AreGoodFor (code_of_image i) e.cells e.states →
      IsExplorationLike s i e.cells e.states e.order k judged kept complete roomy →
      ExploredLike s i e (Ok (rows_text (names_in i) (names_of_image i) k (shown e judged) ++
      last_text e.states kept judged complete roomy))
  NoCells : (cells : ℕ) → e.cells ≡ Some cells → AreBadCells (code_of_image i).names cells →
      ExploredLike s i e (Err faults.BadCells)
  NoStates : HasGoodCells (code_of_image i) e.cells →
      AreBadStates e.states →
      ExploredLike s i e (Err (faults.Explore explore.BadStates))
  Endless : AreGoodFor (code_of_image i) e.cells e.states →
      GoesOnFor (file_of i) (program_of i) 100001 →
      ExploredLike s i e (Err (faults.Explore explore.SetupEndless))
  NotTranslated : (cells k : ℕ) (f : TranslationFault) →
      e.cells ≡ Some cells →
      AreGood (code_of_image i) cells e.states →
      StopsAt (file_of i) (program_of i) k →
      StaysSource (file_of i) (program_of i) (code_of_image i) cells k f →
      ExploredLike s i e (Err (faults.Translation f))
  RowTooLong : (k : ℕ) (judged : List Judged) (kept : ℕ) (complete roomy : Bool) →
      AreGoodFor (code_of_image i) e.cells e.states →
      IsExplorationLike s i e.cells e.states e.order k judged kept complete roomy → HasLong k (rows_of judged) →
      ExploredLike s i e (Err (faults.Translation translation.ResultTooLong))

abbrev pub ExploresLike : Exploring → Text → Text → Text → Result Text ToolFault → Type 0
ExploresLike e like classes program answer =
    AnswersOn classes program (λ i. AnswersLike like program i (λ s. ExploredLike s i e)) answer

-- ---- verdicts

abbrev pub VerdictsLike : ℕ → Text → Text → Text → Result Text ToolFault → Type 0
VerdictsLike limit like classes program answer =
    AnswersOn classes program (λ i. AnswersLike like program i (λ s. Decided classes (file_of s) (program_of s) i
    limit)) answer
