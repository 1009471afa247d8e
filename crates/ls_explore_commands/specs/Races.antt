-- What `explore --races` says.
use Rattle.std.specs.Prelude.{◌≡◌, ◌↔◌, ℕ, Bool, true, List, [], ◌∷◌, Result, Ok, Err, codes}
use Rattle.std.specs.Str.Iter.{HasSubslice}
use Rattle.ls_image.specs.declared.image.Image.{Image}
use Rattle.ls_translation.specs.Texts.{file_of, program_of}
use Rattle.ls_explore.specs.Faults.{AreBadStates}
use Rattle.ls_explore.specs.declared.fault.ExploreFault.TheVariants as explore
use Rattle.ls_report.specs.Events.{Text}
use Rattle.ls_faults.specs.declared.fault.ToolFault.{ToolFault}
use Rattle.ls_faults.specs.declared.fault.ToolFault.TheVariants as faults
use Rattle.ls_commands.specs.Compiled.{AnswersOn, names_of_image}
use Rattle.ls_explore_reports.specs.ImageNames.{names_in}
use Rattle.ls_races.specs.Extents.{IsRaceExtent}
use Rattle.ls_races.specs.Races.{AllAreOn, AreRaces, kinds_of}
use Rattle.ls_races.specs.Volatile.{volatile_by}
use Rattle.ls_races.specs.declared.finding.Race.{Race}
use Rattle.ls_lexer.specs.declared.token.Token.{Token}
use Rattle.ls_race_places.specs.Places.{AreTokens}
use Rattle.ls_race_reports.specs.ClassFlags.{AreFlags}
use Rattle.ls_explore_commands.specs.RaceReports.{races_text}
use Rattle.ls_explore_commands.specs.Readable.{IsReadBack}

-- the schedule of each is read as it is printed
abbrev pub AreRead : Image → List Race → Type 0
AreRead i [] = Unit {0}
AreRead i (r ∷ races) = IsReadBack i r.schedule × AreRead i races

-- The text of a program's data races, or why there is none. Each that is told is one by happens-before: its last two
-- steps are the accesses. If it is said that these are all, accesses meet on variables of no other kind, after no
-- schedule of any length. If it isn't, so many states were kept as may be, or they have too many objects, or accesses
-- meet too late for a schedule. The states that are told are those to which so many schedules lead. The places of the
-- accesses are by the tokens of the class text.
pub data Raced (classes : Text) (i : Image) (limit : ℕ) : Result Text ToolFault → Type 0 where
  NoStates : AreBadStates limit → Raced classes i limit (Err (faults.Explore explore.BadStates))
  Tells : (tokens : List Token) (flags : List (List Bool)) (races : List Race) (states : ℕ) (complete tries : Bool) →
      ¬ AreBadStates limit →
      AreTokens classes tokens →
      AreFlags classes flags →
      (tries ≡ true) ↔ HasSubslice classes (codes "tryLock") →
      AreRaces (volatile_by flags) [] (file_of i) (program_of i) races →
      (complete ≡ true → AllAreOn (volatile_by flags) (kinds_of races) (file_of i) (program_of i)) →
      IsRaceExtent (volatile_by flags) (kinds_of races) (file_of i) (program_of i) limit states complete →
      AreRead i races →
      Raced classes i limit
      (Ok (races_text (names_in i) classes tokens (names_of_image i) flags races states complete tries))

abbrev pub RacesTo : ℕ → Text → Text → Result Text ToolFault → Type 0
RacesTo limit classes program answer = AnswersOn classes program (λ i. Raced classes i limit) answer
