-- Whether a program has a data race.
use Rattle.std.specs.Prelude.{◌≡◌, ℕ, Bool, true, false, List, []}
use Rattle.ls_checked.specs.CheckedTree.{File}
use Rattle.ls_checked.specs.CheckedProgram.{Program}
use Rattle.ls_race_laws.specs.Meeting.{NeverMeets}
use Rattle.ls_race_laws.specs.declared.access.Kind.{Kind}
use Rattle.ls_races.specs.Extents.{IsRaceExtent}
use Rattle.ls_races.specs.Races.{IsRaceOf}
use Rattle.ls_races.specs.Volatile.{is_unsure, volatile_by}
use Rattle.ls_races.specs.declared.finding.Race.{Race}
use Rattle.ls_race_reports.specs.declared.verdict.RaceVerdict.{RaceVerdict}
use Rattle.ls_race_reports.specs.declared.verdict.RaceVerdict.TheVariants as verdicts

-- a race on a field that no class with as many fields declares volatile, or on an element
pub record IsSureRace (flags : List (List Bool)) (file : File) (program : Program) (race : Race) : Type 0 where
  pub told : List Kind
  pub is_race : IsRaceOf (volatile_by flags) told file program race
  pub sure : is_unsure flags race.on ≡ false

-- Why it isn't known. No state may be kept. Or no race was found, and as many states were kept as may be, or they have
-- over 4,194,304 objects together, or accesses meet too late for a schedule. Or accesses race on a field that a class
-- with as many fields declares volatile.
pub data IsUnknown (states : ℕ) (flags : List (List Bool)) (file : File) (program : Program) : Type 0 where
  NoStates : states ≡ 0 → IsUnknown states flags file program
  CutShort : (kept : ℕ) → IsRaceExtent (volatile_by flags) [] file program states kept false →
      IsUnknown states flags file program
  Unsure : (race : Race) → IsRaceOf (volatile_by flags) [] file program race → is_unsure flags race.on ≡ true →
      IsUnknown states flags file program

-- what is said of a program, of which so many states may be kept, by the flags of its classes' fields
abbrev pub IsRaceVerdict : ℕ → List (List Bool) → File → Program → RaceVerdict → Type 0
IsRaceVerdict states flags file program verdicts.Free = NeverMeets (volatile_by flags) file program
IsRaceVerdict states flags file program (verdicts.Raced race) = IsSureRace flags file program race
IsRaceVerdict states flags file program verdicts.Unknown = IsUnknown states flags file program
