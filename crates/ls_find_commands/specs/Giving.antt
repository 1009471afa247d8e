-- Which calls that run one at a time are looked for: each that has a fault; or those that wait, if no call of the menu
-- gives back a lock that another call has taken. Then a lock that a call keeps is never given back.
use Rattle.std.specs.Prelude.{◌≡◌, ◌⊎◌, ℕ, Bool, true, false, Some, slice_get}
use Rattle.std.specs.List.{list_any}
use Rattle.ls_alone.specs.declared.telling.Wanted.{Wanted}
use Rattle.ls_alone.specs.declared.telling.Wanted.TheVariants as wanted
use Rattle.ls_checked.specs.CheckedProgram.{Calling, Making, Program, ProgramCall}
use Rattle.ls_checked.specs.CheckedTree.{File}
use Rattle.ls_family_search.specs.Judged.{Programs, calls_of, making_of}
use Rattle.ls_guarded.specs.Giving.{gives_back}
use Rattle.ls_image.specs.declared.image.Image.{Image}
use Rattle.ls_report.specs.Events.{Text}
use Rattle.ls_translation.specs.Texts.{file_of, program_of}
use Rattle.ls_find_commands.specs.Entries.{CompilesNot, IsEntry, setup_calls}

-- whether a call is of a method that may give back a lock that another call has taken
abbrev pub call_gives : File → ProgramCall → Bool
call_gives file (Making name class text values) = false
call_gives file (Calling name method text result values) = gives_back file method

-- whether a call of the setup is
abbrev pub setup_gives : File → Program → Bool
setup_gives file p = list_any (call_gives file) (setup_calls p)

-- An entry compiles. Whether a call of it may give back such a lock is this.
abbrev pub Gives : Bool → Text → Text → Text → Type 0
Gives some classes making calls =
    (image : Image) × IsEntry classes making calls image × (setup_gives (file_of image) (program_of image) ≡ some)

-- no entry of the menu has such a call
abbrev pub NoneGives : Text → Programs → Type 0
NoneGives classes p =
    (k : ℕ) (calls : Text) → slice_get (calls_of p) k ≡ Some calls → Gives false classes (making_of p) calls

-- one has such a call, or doesn't compile
abbrev pub SomeGives : Text → Programs → Type 0
SomeGives classes p =
    (k : ℕ) × ((calls : Text) × (slice_get (calls_of p) k ≡ Some calls) ×
    (Gives true classes (making_of p) calls ⊎ CompilesNot classes (making_of p) calls))

-- which are looked for, if each is or not, and if threads that wait are or not
pub data IsWanted (strict waiting : Bool) (classes : Text) (p : Programs) : Wanted → Type 0 where
  AllWanted : strict ≡ true → IsWanted strict waiting classes p wanted.All
  NotSought : strict ≡ false → waiting ≡ false → IsWanted strict waiting classes p wanted.Nothing
  GivenBack : strict ≡ false → waiting ≡ true → SomeGives classes p → IsWanted strict waiting classes p wanted.Nothing
  NeverGiven : strict ≡ false → waiting ≡ true → NoneGives classes p → IsWanted strict waiting classes p wanted.Waits
