-- What the command `translate` says.
use Rattle.ls_events.specs.Limits.{most_steps}
use Rattle.std.specs.Prelude.{ℕ, ◌<◌, List, length, Result, Ok, Err}
use Rattle.ls_machine.specs.Room.{AreBadCells}
use Rattle.ls_preservation.specs.Same.{Fits}
use Rattle.ls_preservation.specs.Translations.{to_machine, to_source}
use Rattle.ls_image.specs.Images.{code_of_image}
use Rattle.ls_image.specs.declared.image.Image.{Image}
use Rattle.ls_schedule.specs.Printing.{schedule_text}
use Rattle.ls_schedule.specs.Reading.{schedule_of}
use Rattle.ls_schedule.specs.declared.fault.ScheduleFault.{ScheduleFault}
use Rattle.ls_translation.specs.Room.{IsFirstUnfit}
use Rattle.ls_translation.specs.declared.fault.TranslationFault.TheVariants as translation
use Rattle.ls_report.specs.Events.{Text}
use Rattle.ls_command_line.specs.declared.words.Side.{Side}
use Rattle.ls_command_line.specs.declared.words.Side.TheVariants as sides
use Rattle.ls_faults.specs.Faults.{lifted_schedule}
use Rattle.ls_faults.specs.declared.fault.ToolFault.{ToolFault}
use Rattle.ls_faults.specs.declared.fault.ToolFault.TheVariants as faults
use Rattle.ls_commands.specs.Compiled.{AnswersOn, file_of_image, names_of_image, plain_program_of}

-- The schedule of the other side, for the steps of one side; or what is made has no room in the cells, from a step on,
-- or the machine would take too many steps; or the cells are too few or too many.
pub data Turned (i : Image) (cells : ℕ) (steps : List ℕ) : Side → Result (List ℕ) ToolFault → Type 0 where
  ToSource : ¬ AreBadCells (code_of_image i).names cells →
      Turned i cells steps sides.Source (Ok (to_source (code_of_image i) cells steps))
  ToMachine : ¬ AreBadCells (code_of_image i).names cells → Fits (file_of_image i) (plain_program_of i) cells steps →
      Turned i cells steps sides.Machine
      (Ok (to_machine (file_of_image i) (plain_program_of i) (code_of_image i) cells steps))
  NoRoom : ¬ AreBadCells (code_of_image i).names cells →
      (step : ℕ) →
      IsFirstUnfit (file_of_image i) (plain_program_of i) cells steps step →
      Turned i cells steps sides.Machine (Err (faults.Translation (translation.DoesNotFit step)))
  TooLong : ¬ AreBadCells (code_of_image i).names cells → Fits (file_of_image i) (plain_program_of i) cells steps →
      most_steps < length (to_machine (file_of_image i) (plain_program_of i) (code_of_image i) cells steps) →
      Turned i cells steps sides.Machine (Err (faults.Translation translation.ResultTooLong))
  NoCells : (to : Side) → AreBadCells (code_of_image i).names cells → Turned i cells steps to (Err faults.BadCells)

-- a schedule's text
abbrev pub schedule_of_image : Image → Result (List ℕ) ToolFault → Result Text ToolFault
schedule_of_image i (Ok steps) = Ok (schedule_text (names_of_image i) steps)
schedule_of_image i (Err f) = Err f

-- the text of the schedule of the other side, or the schedule's fault
pub data Translated (i : Image) (to : Side) (cells : ℕ) : Result (List ℕ) ScheduleFault → Result Text ToolFault →
    Type 0 where
  Translates : (steps : List ℕ) (turned : Result (List ℕ) ToolFault) →
      Turned i cells steps to turned →
      Translated i to cells (Ok steps) (schedule_of_image i turned)
  NoSchedule : (f : ScheduleFault) → Translated i to cells (Err f) (Err (lifted_schedule f))

abbrev pub TranslatesTo : Side → ℕ → Text → Text → Text → Result Text ToolFault → Type 0
TranslatesTo to cells classes program schedule answer =
    AnswersOn classes program (λ i. Translated i to cells (schedule_of (names_of_image i) schedule)) answer
