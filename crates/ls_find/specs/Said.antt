-- What is said of a program, and when nothing is.
use Rattle.std.specs.Prelude.{◌≡◌, ◌<◌, ◌⊎◌, ℕ, Bool, true, List, Some, None, length}
use Rattle.ls_checked.specs.CheckedTree.{File}
use Rattle.ls_checked.specs.CheckedProgram.{Program}
use Rattle.ls_events.specs.Limits.{most_steps}
use Rattle.ls_events.specs.declared.event.Event.{Event}
use Rattle.ls_meaning.specs.Runs.{source_history, source_run}
use Rattle.ls_meaning.specs.Still.{IsOver}
use Rattle.ls_endless_calls.specs.Waits.{IsPending}
use Rattle.ls_explore.specs.Faults.{AreBadStates}
use Rattle.ls_explore.specs.Rows.{TellStates, Told}
use Rattle.ls_explore.specs.Settings.{GoesOnFor}
use Rattle.ls_search.specs.Verdicts.{HaveManyObjects}
use Rattle.ls_linearity.specs.Meant.{IsUndecided}
use Rattle.ls_specification.specs.Specification.{Given}
use Rattle.ls_find.specs.Verdicts.{AllLinearizable, IsBadSchedule, IsGood, IsShown, IsShownFor, NoneWaits}
use Rattle.ls_find.specs.declared.sought.Sought.{Sought}
use Rattle.ls_find.specs.declared.verdict.ProgramVerdict.{ProgramVerdict}
use Rattle.ls_find.specs.declared.verdict.ProgramVerdict.TheVariants as verdicts
use Rattle.ls_find.specs.declared.verdict.Reason.{Reason}
use Rattle.ls_find.specs.declared.verdict.Reason.TheVariants as reasons

-- Why not all schedules are looked at. No such number of states may be kept. Or the setup acts in each of 100,001
-- steps. Or there are as many states as may be kept, each with a path of its own. Or the states to which some schedules
-- lead, each of which goes on from an earlier one, have over 4,194,304 objects together. Or a schedule is bad that has
-- more steps than a schedule may have, each of which acts.
pub data IsCutShort (states : ℕ) (given : Given) (file : File) (program : Program) : Type 0 where
  NoStates : AreBadStates states → IsCutShort states given file program
  SetupGoesOn : GoesOnFor file program 100001 → IsCutShort states given file program
  ManyStates : (k : ℕ) (rows : List Told) → TellStates file program k rows states →
      IsCutShort states given file program
  ManyObjects : (k kept : ℕ) → HaveManyObjects file program k kept → IsCutShort states given file program
  LongSchedule : (reason : Reason) (schedule : List ℕ) →
      IsBadSchedule reason given file program schedule →
      most_steps < length schedule →
      IsCutShort states given file program

-- after some schedule no thread acts, and a call is pending
pub record HasWaitingCall (file : File) (program : Program) : Type 0 where
  pub schedule : List ℕ
  pub over : IsOver file program (source_run file program schedule)
  pub call : Event
  pub pending : IsPending (source_history file program schedule) call

-- what is said of waiting: nothing only where the schedules are cut short, or a call waits
abbrev pub IsWaitingVerdict : ℕ → Given → File → Program → ProgramVerdict → Type 0
IsWaitingVerdict states given file program verdicts.Good = NoneWaits given file program
IsWaitingVerdict states given file program verdicts.Unknown =
    IsCutShort states given file program ⊎ HasWaitingCall file program
IsWaitingVerdict states given file program (verdicts.Bad reason schedule) =
    IsShownFor reasons.Waits reason given file program schedule

-- if waiting is looked for, all histories are linearizable, and a call waits
pub record MayWait (waiting : Bool) (given : Given) (file : File) (program : Program) : Type 0 where
  pub asked : waiting ≡ true
  pub linearizable : AllLinearizable given file program
  pub waits : HasWaitingCall file program

-- It isn't known of the history of this schedule whether it is linearizable to the specification.
pub record IsUnexplained (sfile : File) (sprogram : Program) (file : File) (program : Program) : Type 0 where
  pub schedule : List ℕ
  pub unexplained : IsUndecided sfile sprogram (source_history file program schedule)

-- so it is of a specification that is given; a program's own calls always decide
abbrev pub HasUnexplained : Given → File → Program → Type 0
HasUnexplained None file program = ⊥
HasUnexplained (Some s) file program = IsUnexplained s.0 s.1 file program

-- What is said of a program. Nothing is only where its schedules are cut short, or a call may wait for ever, or a
-- history isn't explained by a specification not all of whose histories are known.
abbrev pub IsVerdict : ℕ → Sought → Given → File → Program → ProgramVerdict → Type 0
IsVerdict states sought given file program verdicts.Good = IsGood sought.waiting given file program
IsVerdict states sought given file program verdicts.Unknown =
    IsCutShort states given file program ⊎ (MayWait sought.waiting given file program ⊎ HasUnexplained given file
    program)
IsVerdict states sought given file program (verdicts.Bad reason schedule) =
    IsShown sought reason given file program schedule

-- the same, or nothing
abbrev pub IsVerdictIfAny : Sought → Given → File → Program → ProgramVerdict → Type 0
IsVerdictIfAny sought given file program verdicts.Good = IsGood sought.waiting given file program
IsVerdictIfAny sought given file program verdicts.Unknown = Unit {0}
IsVerdictIfAny sought given file program (verdicts.Bad reason schedule) =
    IsShown sought reason given file program schedule
