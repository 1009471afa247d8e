-- What the commands that compile say.
use Rattle.std.specs.Prelude.{◌≡◌, ◌-◌, ℕ, List, [], ◌∷◌, ◌++◌, codes, length, Result, Ok, Err}
use Rattle.std.specs.Fmt.{decimal}
use Rattle.ls_checked.specs.CheckedTree.{File}
use Rattle.ls_checked.specs.CheckedProgram.{Program}
use Rattle.ls_checked.specs.PlainProgram.{plain_program}
use Rattle.ls_types_checked.specs.CheckedFile.{elaborated_file}
use Rattle.ls_code.specs.Machine.{machine_history}
use Rattle.ls_machine.specs.Room.{AreBadCells}
use Rattle.ls_image.specs.Images.{checked_of, code_of_image, Compiles, program_of_image}
use Rattle.ls_compiler.specs.Answers.{CompilesTo, IsWithinLimits}
use Rattle.ls_compiler.specs.declared.fault.CompileFault.{CompileFault}
use Rattle.ls_image.specs.declared.image.Image.{Image}
use Rattle.ls_schedule.specs.Reading.{schedule_of, thread_names}
use Rattle.ls_schedule.specs.declared.fault.ScheduleFault.{ScheduleFault}
use Rattle.ls_report.specs.Events.{Text}
use Rattle.ls_report.specs.Printing.{run_text}
use Rattle.ls_faults.specs.ReadBack.{ReadsBack}
use Rattle.ls_faults.specs.Faults.{lifted_compile, lifted_schedule}
use Rattle.ls_faults.specs.declared.fault.ToolFault.{ToolFault}
use Rattle.ls_faults.specs.declared.fault.ToolFault.TheVariants as faults

abbrev pub file_of_image : Image → File
file_of_image i = (elaborated_file (checked_of i)).file

abbrev pub plain_program_of : Image → Program
plain_program_of i = plain_program (program_of_image i)

abbrev pub names_of_image : Image → List Text
names_of_image i = thread_names (program_of_image i)

-- The two texts are compiled to an image that runs as both, and the answer is one that may be given on it; or they are
-- refused, and the answer is their fault.
pub data AnswersOn (classes program : Text) (May : Image → Result Text ToolFault → Type 0) : Result Text ToolFault →
    Type 0 where
  OnImage : (image : Image) (answer : Result Text ToolFault) →
      Compiles classes program image →
      IsWithinLimits image →
      May image answer →
      AnswersOn classes program May answer
  NotCompiled : (f : CompileFault) →
      CompilesTo classes program (Err f) →
      AnswersOn classes program May (Err (lifted_compile f))

-- constructors count as methods, and the setup, which stands first, as no thread
abbrev pub counts_text : File → Program → Text
counts_text file p =
    codes "classes " ++ (decimal (length file.classes) ++ (codes "\nmethods " ++ (decimal (length file.methods)
    ++ (codes "\nthreads " ++ (decimal (length p.threads - 1) ++ 10 ∷ [])))))

-- the counts of an image
abbrev pub Counted : Image → Result Text ToolFault → Type 0
Counted image answer = answer ≡ Ok (counts_text (file_of_image image) (plain_program_of image))

abbrev pub CountsTo : Text → Text → Result Text ToolFault → Type 0
CountsTo classes program answer = AnswersOn classes program Counted answer

-- the history of a machine that takes the steps, with so many cells; or the schedule's fault; or the cells are too few
-- or too many
pub data Replayed (i : Image) (cells : ℕ) : Result (List ℕ) ScheduleFault → Result Text ToolFault → Type 0 where
  Runs : (steps : List ℕ) → ¬ AreBadCells (code_of_image i).names cells →
      Replayed i cells (Ok steps) (Ok (run_text (plain_program_of i) (machine_history (code_of_image i) cells steps)))
  NoCells : (steps : List ℕ) →
      AreBadCells (code_of_image i).names cells →
      Replayed i cells (Ok steps) (Err faults.BadCells)
  NoSchedule : (f : ScheduleFault) → Replayed i cells (Err f) (Err (lifted_schedule f))

-- and a history that is printed reads back
abbrev pub ReplayedOf : ℕ → Text → Image → Result Text ToolFault → Type 0
ReplayedOf cells schedule i answer = Replayed i cells (schedule_of (names_of_image i) schedule) answer ×
    ReadsBack answer

abbrev pub ReplaysTo : ℕ → Text → Text → Text → Result Text ToolFault → Type 0
ReplaysTo cells classes program schedule answer = AnswersOn classes program (ReplayedOf cells schedule) answer
