-- What an exploration says of a program.
use Rattle.std.specs.Prelude.{◌≡◌, ◌<◌, ℕ, Bool, true, List, Some, Contains, length, slice_get}
use Rattle.ls_checked.specs.CheckedTree.{File}
use Rattle.ls_checked.specs.CheckedProgram.{Program}
use Rattle.ls_events.specs.Limits.{most_steps}
use Rattle.ls_events.specs.declared.event.Event.{Event}
use Rattle.ls_meaning.specs.Runs.{source_history}
use Rattle.ls_endless_calls.specs.Turning.{HasTurning, NoneTurnsUnexcused}
use Rattle.ls_explore.specs.Rows.{ActAll, IsEnd, Told}
use Rattle.ls_explore.specs.Tellings.{schedule_of}
use Rattle.ls_find.specs.declared.sought.Sought.{Sought}
use Rattle.ls_find.specs.declared.verdict.Reason.{Reason}
use Rattle.ls_find.specs.declared.verdict.Reason.TheVariants as reasons
use Rattle.ls_find.specs.declared.verdict.ProgramVerdict.{ProgramVerdict}
use Rattle.ls_find.specs.declared.verdict.ProgramVerdict.TheVariants as verdicts
use Rattle.ls_source_judge.specs.Judged.{AllLike, IsNotLike}
use Rattle.ls_specification.specs.Specification.{Given, given_file, given_program}
use Rattle.ls_endless_calls.specs.Laws.{NoneWaitsForEver, WaitsForEver}
use Rattle.ls_endless_calls.specs.Waits.{AreExcused, IsUnexcused}
use Rattle.ls_verdicts.specs.Verdicts as sets
use Rattle.ls_verdicts.specs.declared.verdicts.Verdict.TheVariants as legality

-- ---- by a specification, if one is given; else by the program's own calls that run one at a time

-- the history of each schedule, of any length, is linearizable
abbrev pub AllLinearizable : Given → File → Program → Type 0
AllLinearizable given file program = AllLike (given_file given file) (given_program given program) file program

-- that of this schedule isn't
abbrev pub IsNotLinearizable : Given → File → Program → List ℕ → Type 0
IsNotLinearizable given file program schedule =
    IsNotLike (given_file given file) (given_program given program) file program schedule

-- each call that waits where no thread acts never ends in calls that run one at a time
abbrev pub NoneWaits : Given → File → Program → Type 0
NoneWaits given file program = NoneWaitsForEver (given_file given file) (given_program given program) file program

-- a call waits for ever after this schedule
abbrev pub HasWaiting : Given → File → Program → List ℕ → Type 0
HasWaiting given file program schedule =
    (c : Event) × WaitsForEver (given_file given file) (given_program given program) file program schedule c

-- no threads turn for ever in calls that end where calls run one at a time
abbrev pub NoneTurns : Given → File → Program → Type 0
NoneTurns given file program = NoneTurnsUnexcused (given_file given file) (given_program given program) file program

-- they do after this schedule
abbrev pub HasTurns : Given → File → Program → List ℕ → Type 0
HasTurns given file program schedule =
    HasTurning (given_file given file) (given_program given program) file program schedule

-- ---- what is said

-- the history of this schedule is one of a set, and no order of it is legal
abbrev pub IsIllegal : File → Program → List ℕ → Type 0
IsIllegal file program schedule = sets.IsVerdict program (source_history file program schedule) legality.Illegal

-- all histories are linearizable; and if waiting is looked for, no thread waits for ever
pub record IsGood (waiting : Bool) (given : Given) (file : File) (program : Program) : Type 0 where
  pub linearizable : AllLinearizable given file program
  pub waits : waiting ≡ true → NoneWaits given file program

-- why a schedule is bad
abbrev pub IsBad : Reason → Given → File → Program → List ℕ → Type 0
IsBad reasons.NotLinearizable given file program schedule = IsNotLinearizable given file program schedule
IsBad reasons.Waits given file program schedule = HasWaiting given file program schedule
IsBad reasons.Illegal given file program schedule = IsIllegal file program schedule
IsBad reasons.Turns given file program schedule = HasTurns given file program schedule

-- a schedule that is bad for a reason, and each of whose steps acts
pub record IsBadSchedule (reason : Reason) (given : Given) (file : File) (program : Program) (schedule : List ℕ) :
    Type 0 where
  pub bad : IsBad reason given file program schedule
  pub acts : ActAll file program schedule

-- such a schedule is looked for
abbrev pub IsAsked : Sought → Reason → Type 0
IsAsked sought reasons.NotLinearizable = Unit {0}
IsAsked sought reasons.Waits = sought.waiting ≡ true
IsAsked sought reasons.Illegal = sought.set ≡ true
IsAsked sought reasons.Turns = sought.turning ≡ true

-- What is shown of a bad program: such a schedule, for a reason for which it is looked for.
pub record IsShown (sought : Sought) (reason : Reason) (given : Given) (file : File) (program : Program)
    (schedule : List ℕ) : Type 0 where
  pub asked : IsAsked sought reason
  pub schedule_is : IsBadSchedule reason given file program schedule

-- it is shown for this reason
pub record IsShownFor (wanted reason : Reason) (given : Given) (file : File) (program : Program) (schedule : List ℕ) :
    Type 0 where
  pub reason_is : reason ≡ wanted
  pub schedule_is : IsBadSchedule reason given file program schedule

-- For a reason it shows the schedule of the row at a place, after so many steps of the setup; or nothing, if these are
-- too many for a schedule.
abbrev pub ShowsRow : Reason → ℕ → List Told → ℕ → ProgramVerdict → Type 0
ShowsRow reason setup rows at verdicts.Good = ⊥
ShowsRow reason setup rows at verdicts.Unknown =
    (r : Told) → slice_get rows at ≡ Some r → most_steps < length (schedule_of setup r)
ShowsRow reason setup rows at (verdicts.Bad said schedule) =
    (r : Told) × (slice_get rows at ≡ Some r) × (schedule ≡ schedule_of setup r) × (said ≡ reason)

-- ---- waiting

-- each call that is pending where a row ends is the last of one of the runs
abbrev pub AllExcused : List (List Event) → List Told → Type 0
AllExcused runs rows = (r : Told) → Contains rows r → IsEnd r.ending → AreExcused runs r.history

-- at the end of a row a call is pending that isn't
pub record HasUnexcused (runs : List (List Event)) (row : Told) : Type 0 where
  pub ends : IsEnd row.ending
  pub place : ℕ
  pub unexcused : IsUnexcused runs row.history place

-- so at the end of the row at this place
pub record WaitsAt (runs : List (List Event)) (rows : List Told) (at : ℕ) : Type 0 where
  pub row : Told
  pub is : slice_get rows at ≡ Some row
  pub waits : HasUnexcused runs row
