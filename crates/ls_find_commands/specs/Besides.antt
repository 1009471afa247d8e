-- What is said beside `none`: of a menu that asks for no answer, of calls that run one at a time, and of data races.
use Rattle.std.specs.Prelude.{◌≡◌, ℕ, Bool, true, false, List, [], ◌++◌, length}
use Rattle.ls_alone.specs.declared.telling.Tellings.{Tellings}
use Rattle.ls_families.specs.Families.{plans}
use Rattle.ls_family_search.specs.Judged.{Programs}
use Rattle.ls_find_serial.specs.Lines.{serial_text}
use Rattle.ls_find_serial.specs.Told.{AreToldOf}
use Rattle.ls_report.specs.Events.{Text}
use Rattle.ls_find_commands.specs.Racing.{IsBeside}
use Rattle.ls_find_commands.specs.Silent.{IsSilentBeside}

-- What is said of the calls of all programs that run one at a time, if it is asked; else nothing.
pub data IsSerialBeside (asked : Bool) (classes : Text) (p : Programs) : Text → Type 0 where
  Silent : asked ≡ false → IsSerialBeside asked classes p []
  Says : (told : List Tellings) → asked ≡ true → AreToldOf classes p 0 (length (plans p.family)) told →
      IsSerialBeside asked classes p (serial_text told)

-- What is said of a menu without a call that answers a value, that, and then what is said of data races, where so many
-- states of each program may be kept.
pub record AreBeside (asked : Bool) (states : ℕ) (classes : Text) (p : Programs) (text : Text) : Type 0 where
  pub silent : Text
  pub serial : Text
  pub races : Text
  pub silent_line : IsSilentBeside asked classes p silent
  pub serial_lines : IsSerialBeside asked classes p serial
  pub race_line : IsBeside asked states classes p races
  pub is : text ≡ silent ++ (serial ++ races)
