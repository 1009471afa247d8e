-- What is found of the data races of a program of a class.
use Rattle.std.specs.Prelude.{◌≡◌, ℕ, Bool, List, Err, Ok, string_bytes}
use Rattle.ls_compiler.specs.Answers.{CompilesTo}
use Rattle.ls_explore_reports.specs.ImageNames.{names_in}
use Rattle.ls_fewest_switches.specs.Wording.{switches_text}
use Rattle.ls_find.specs.Found.{Text}
use Rattle.ls_find_races.specs.declared.explorer.RaceFound.{RaceFound}
use Rattle.ls_find_races.specs.declared.explorer.RaceWhy.{RaceWhy}
use Rattle.ls_find_races.specs.declared.explorer.RaceWhy.TheVariants as whys
use Rattle.ls_image.specs.Images.{Compiles, program_of_image}
use Rattle.ls_image.specs.declared.image.Image.{Image}
use Rattle.ls_race_laws.specs.Meeting.{NeverMeets}
use Rattle.ls_race_reports.specs.ClassFlags.{AreFlags}
use Rattle.ls_race_reports.specs.Verdicts.{IsSureRace, IsUnknown}
use Rattle.ls_race_reports.specs.Words.{kind_text}
use Rattle.ls_races.specs.Volatile.{volatile_by}
use Rattle.ls_races.specs.declared.finding.Race.{Race}
use Rattle.ls_schedule.specs.Printing.{schedule_text}
use Rattle.ls_schedule.specs.Reading.{schedule_of, thread_names}
use Rattle.ls_translation.specs.Texts.{file_of, program_of}

-- With this program the class text compiles, and after no schedule of any length are two threads about to make accesses
-- that conflict.
pub record IsRaceFree (classes program : Text) : Type 0 where
  pub image : Image
  pub compiles : Compiles classes program image
  pub flags : List (List Bool)
  pub declared : AreFlags classes flags
  pub never : NeverMeets (volatile_by flags) (file_of image) (program_of image)

-- with this program it compiles, and nothing is said of it, for a reason
pub record IsNotSaid (states : ℕ) (classes program : Text) : Type 0 where
  pub image : Image
  pub compiles : Compiles classes program image
  pub flags : List (List Bool)
  pub declared : AreFlags classes flags
  pub unknown : IsUnknown states flags (file_of image) (program_of image)

-- With this program it compiles, and the last two steps of a run are accesses that race, on a field that no class with
-- as many fields declares volatile, or on an element. These are the texts of the variable, of the context switches if
-- they are the fewest, and of the schedule, which is read as it is printed.
pub record IsRacedProgram (classes program : Text) (f : RaceFound) : Type 0 where
  pub image : Image
  pub compiles : Compiles classes program image
  pub flags : List (List Bool)
  pub declared : AreFlags classes flags
  pub race : Race
  pub is_race : IsSureRace flags (file_of image) (program_of image) race
  pub on : string_bytes f.on ≡ kind_text (names_in image) flags race.on
  pub switches : string_bytes f.switches ≡ switches_text race.fewest race.schedule
  pub said : string_bytes f.schedule ≡ schedule_text (thread_names (program_of_image image)) race.schedule
  pub reads : schedule_of (thread_names (program_of_image image)) (string_bytes f.schedule) ≡ Ok race.schedule

-- so it is; or it doesn't compile
abbrev pub IsRaceWhy : Text → Text → RaceWhy → Type 0
IsRaceWhy classes program (whys.Raced f) = IsRacedProgram classes program f
IsRaceWhy classes program (whys.NotCompiled f) = CompilesTo classes program (Err f)
