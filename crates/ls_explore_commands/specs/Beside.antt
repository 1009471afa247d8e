-- What `explore --verdict` says beside `none`: of calls that run one at a time, of livelocks, and of data races.
use Rattle.std.specs.Prelude.{◌≡◌, ◌↔◌, ◌++◌, ℕ, Bool, true, false, List, [], codes}
use Rattle.std.specs.Str.Iter.{HasSubslice}
use Rattle.ls_alone.specs.Alone.{AreSaid}
use Rattle.ls_image.specs.Images.{program_of_image}
use Rattle.ls_image.specs.declared.image.Image.{Image}
use Rattle.ls_schedule.specs.Reading.{thread_names}
use Rattle.ls_translation.specs.Texts.{file_of, program_of}
use Rattle.ls_report.specs.Events.{Text}
use Rattle.ls_labels.specs.Names.{Names}
use Rattle.ls_commands.specs.Compiled.{names_of_image}
use Rattle.ls_end_reports.specs.Livelocks.{IsLivelockLine}
use Rattle.ls_progress.specs.declared.lassos.Lasso.{Lasso}
use Rattle.ls_progress_laws.specs.Livelocks.{IsLivelock}
use Rattle.ls_explore_reports.specs.ImageNames.{names_in}
use Rattle.ls_race_reports.specs.Beside.{free_line, raced_line}
use Rattle.ls_race_reports.specs.ClassFlags.{AreFlags}
use Rattle.ls_race_reports.specs.Verdicts.{IsRaceVerdict}
use Rattle.ls_race_reports.specs.Words.{kind_text}
use Rattle.ls_race_reports.specs.declared.verdict.RaceVerdict.{RaceVerdict}
use Rattle.ls_race_reports.specs.declared.verdict.RaceVerdict.TheVariants as verdicts

-- whether the program has a data race, by the flags of its classes' fields, and whether these have a call of `tryLock`
abbrev pub beside_text : Names → List (List Bool) → Bool → RaceVerdict → Text
beside_text names flags tries verdicts.Free = free_line true tries
beside_text names flags tries (verdicts.Raced race) = raced_line (kind_text names flags race.on) []
beside_text names flags tries verdicts.Unknown = free_line false tries

-- A line tells of a livelock, or nothing is said.
pub data IsLivelockSaid (i : Image) : Text → Type 0 where
  NotSaid : IsLivelockSaid i []
  Livelock : (l : Lasso) (line : Text) →
      IsLivelock (file_of i) (program_of i) l.way.items l.cycle.items →
      IsLivelockLine (names_of_image i) l line →
      IsLivelockSaid i line

-- what calls that run one at a time do, then a livelock, and then this line on data races
pub record AreLines (i : Image) (races lines : Text) : Type 0 where
  pub alone : Text
  pub livelock : Text
  pub are_said : AreSaid (names_in i) (thread_names (program_of_image i)) alone
  pub is_said : IsLivelockSaid i livelock
  pub is : lines ≡ alone ++ (livelock ++ races)

-- Where all states were kept it is said so of the image's program by the class text, whatever specifies the program.
-- Else nothing is said.
pub data IsBeside (classes : Text) (i : Image) (limit : ℕ) : Bool → Text → Type 0 where
  Silent : IsBeside classes i limit false []
  Says : (lines : Text) (flags : List (List Bool)) (tries : Bool) (verdict : RaceVerdict) →
      AreFlags classes flags →
      (tries ≡ true) ↔ HasSubslice classes (codes "tryLock") →
      IsRaceVerdict limit flags (file_of i) (program_of i) verdict →
      AreLines i (beside_text (names_in i) flags tries verdict) lines →
      IsBeside classes i limit true lines
