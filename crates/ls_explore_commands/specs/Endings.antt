-- What `explore --ends` says.
use Rattle.std.specs.Prelude.{◌≡◌, ◌++◌, ℕ, Bool, false, List, Result, Ok, Err, length}
use Rattle.ls_image.specs.declared.image.Image.{Image}
use Rattle.ls_translation.specs.Texts.{file_of, program_of}
use Rattle.ls_explore.specs.Faults.{AreBadStates}
use Rattle.ls_explore.specs.declared.fault.ExploreFault.TheVariants as explore
use Rattle.ls_report.specs.Events.{Text}
use Rattle.ls_faults.specs.declared.fault.ToolFault.{ToolFault}
use Rattle.ls_faults.specs.declared.fault.ToolFault.TheVariants as faults
use Rattle.ls_commands.specs.Compiled.{AnswersOn, names_of_image}
use Rattle.ls_progress.specs.Ends.{AreEndsFrom, AreEndsOf, calls_of, keys}
use Rattle.ls_progress.specs.Roots.{root_of}
use Rattle.ls_progress.specs.declared.judging.CallEnds.{CallEnds}
use Rattle.ls_end_reports.specs.Words.{calls_text}
use Rattle.ls_end_reports.specs.Written.{AreWritten}
use Rattle.ls_end_reports.specs.declared.writing.CallText.{CallText}
use Rattle.ls_explore_commands.specs.Reports.{last_text}

-- What is told of each call of the program but those of the setup, or why nothing is. Where a bound is told, the call
-- has it in schedules of any length. Where a lasso is told, the schedule that is printed is read as its way and ten
-- rounds of its cycle, and the call doesn't end however often it goes round. It is told of the program as it stands, or
-- of its threads that begin their calls again.
pub data Ended (i : Image) (again : Bool) (limit : ℕ) : Result Text ToolFault → Type 0 where
  NoStates : AreBadStates limit → Ended i again limit (Err (faults.Explore explore.BadStates))
  Tells : (calls : List CallEnds) (texts : List CallText) (states : ℕ) (complete : Bool) →
      ¬ AreBadStates limit →
      keys calls ≡ calls_of (program_of i).threads →
      AreEndsFrom (file_of i) (length (program_of i).threads) (root_of again (file_of i) (program_of i)) calls →
      (again ≡ false → AreEndsOf (file_of i) (program_of i) calls) →
      AreWritten (names_of_image i) calls texts →
      Ended i again limit (Ok (calls_text (program_of i) texts ++ last_text limit states complete))

abbrev pub EndsTo : Bool → ℕ → Text → Text → Result Text ToolFault → Type 0
EndsTo again limit classes program answer = AnswersOn classes program (λ i. Ended i again limit) answer
