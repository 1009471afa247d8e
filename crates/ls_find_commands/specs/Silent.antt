-- Whether a menu has a call that answers a value. Without one, each history is of calls that answer nothing.
use Rattle.std.specs.Prelude.{◌≡◌, ◌⊎◌, ℕ, Bool, true, false, [], Some, codes, is_some}
use Rattle.std.specs.Prelude.{slice_get}
use Rattle.std.specs.List.{list_any}
use Rattle.ls_checked.specs.CheckedProgram.{Calling, Making, Program, ProgramCall}
use Rattle.ls_checked.specs.PlainProgram.{plain_program}
use Rattle.ls_family_search.specs.Judged.{Programs, making_of}
use Rattle.ls_image.specs.Images.{program_of_image}
use Rattle.ls_image.specs.declared.image.Image.{Image}
use Rattle.ls_report.specs.Events.{Text}
use Rattle.ls_find_commands.specs.Entries.{CompilesNot, IsEntry, setup_calls}

-- whether a call is of a method that answers a value
abbrev pub answers_value : ProgramCall → Bool
answers_value (Making name class text values) = false
answers_value (Calling name method text result values) = is_some result

-- whether a call of the setup does
abbrev pub setup_answers : Program → Bool
setup_answers p = list_any answers_value (setup_calls p)

-- A program that makes an object and then makes these calls compiles. Whether a call of it answers a value is this.
abbrev pub Answer : Bool → Text → Text → Text → Type 0
Answer some classes making calls =
    (image : Image) × IsEntry classes making calls image ×
    (setup_answers (plain_program (program_of_image image)) ≡ some)

-- no entry of threads has a call that answers a value
abbrev pub IsSilent : Text → Programs → Type 0
IsSilent classes p =
    (k : ℕ) (calls : Text) → slice_get p.menu.threads k ≡ Some calls → Answer false classes (making_of p) calls

-- one has such a call, or doesn't compile
abbrev pub IsNotSilent : Text → Programs → Type 0
IsNotSilent classes p =
    (k : ℕ) × ((calls : Text) × (slice_get p.menu.threads k ≡ Some calls) ×
    (Answer true classes (making_of p) calls ⊎ CompilesNot classes (making_of p) calls))

abbrev pub silent_text : Text
silent_text =
    codes "// no call of the menu answers a value: of its calls it is only told which throw, wait or turn for ever\n"

-- what is said of that, if it is asked; else nothing
pub data IsSilentBeside (asked : Bool) (classes : Text) (p : Programs) : Text → Type 0 where
  Unasked : asked ≡ false → IsSilentBeside asked classes p []
  Answers : asked ≡ true → IsNotSilent classes p → IsSilentBeside asked classes p []
  NoneAnswers : asked ≡ true → IsSilent classes p → IsSilentBeside asked classes p silent_text
