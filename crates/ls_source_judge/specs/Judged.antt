-- What is said of the histories of schedules.
use Rattle.std.specs.Prelude.{◌≤◌, ℕ, List}
use Rattle.ls_checked.specs.CheckedTree.{File}
use Rattle.ls_checked.specs.CheckedProgram.{Program}
use Rattle.ls_meaning.specs.Runs.{source_history}
use Rattle.ls_linearizable.specs.Linearizable.{IsLinearizable}
use Rattle.ls_fewest_switches.specs.Switches.{switches}
use Rattle.ls_search.specs.Verdicts.{LeavesStuck}
use Rattle.ls_search_laws.specs.Stepping.{ActAll}
use Rattle.ls_serial_search.specs.Open.{HasLongCall}
use Rattle.ls_serial_search.specs.Told.{usual}
use Rattle.ls_serial_search.specs.declared.telling.Doubt.{Doubt}
use Rattle.ls_serial_search.specs.declared.telling.Doubt.TheVariants as doubts
use Rattle.ls_events.specs.declared.event.Event.{Event}
use Rattle.ls_automaton.specs.Programs.{IsExplainedWithin}

-- The history of each schedule, of any length, is linearizable to a specification: the same calls of a file of its own,
-- run one at a time.
abbrev pub AllLike : File → Program → File → Program → Type 0
AllLike sfile sprogram file program =
    (schedule : List ℕ) → IsLinearizable sfile sprogram (source_history file program schedule)

-- that of this schedule isn't
abbrev pub IsNotLike : File → Program → File → Program → List ℕ → Type 0
IsNotLike sfile sprogram file program schedule =
    IsLinearizable sfile sprogram (source_history file program schedule) → ⊥

-- no schedule whose history isn't, of any length, has fewer context switches
abbrev pub IsSimplestUnlike : File → Program → File → Program → List ℕ → Type 0
IsSimplestUnlike sfile sprogram file program schedule =
    (s : List ℕ) → IsNotLike sfile sprogram file program s → switches schedule ≤ switches s

-- Each step of the schedule acts, and its history isn't linearizable to the specification.
pub record IsUnlikeRun (sfile : File) (sprogram : Program) (file : File) (program : Program) (schedule : List ℕ) :
    Type 0 where
  pub acts : ActAll file program schedule
  pub bad : IsNotLike sfile sprogram file program schedule

-- A call goes on: alone it doesn't end within so many steps. No serial run explains the history, each call of which
-- does.
pub record IsUnexplainedWithin (file : File) (program : Program) (bound : ℕ) (h : List Event) : Type 0 where
  pub long : HasLongCall file program bound
  pub unexplained : IsExplainedWithin file program bound h → ⊥

-- it isn't known for this reason whether the history is linearizable
abbrev pub IsUnexplained : File → Program → ℕ → Doubt → List Event → Type 0
IsUnexplained file program bound doubts.LongCall h = IsUnexplainedWithin file program bound h

-- Each step acts, and it isn't known for this reason whether the history is linearizable to the specification.
pub record IsUnjudgedRun (sfile : File) (sprogram : Program) (file : File) (program : Program) (doubt : Doubt)
    (schedule : List ℕ) : Type 0 where
  pub acts : ActAll file program schedule
  pub unexplained : IsUnexplained sfile sprogram usual.steps doubt (source_history file program schedule)

-- Each step acts, and after the schedule no thread acts and one waits for a lock.
pub record IsStuckRun (file : File) (program : Program) (schedule : List ℕ) : Type 0 where
  pub acts : ActAll file program schedule
  pub stuck : LeavesStuck file program schedule

-- ---- the program's own calls as its specification

abbrev pub AllLinearizable : File → Program → Type 0
AllLinearizable file program = AllLike file program file program

abbrev pub IsNotLinearizable : File → Program → List ℕ → Type 0
IsNotLinearizable file program schedule = IsNotLike file program file program schedule

abbrev pub IsSimplestBad : File → Program → List ℕ → Type 0
IsSimplestBad file program schedule = IsSimplestUnlike file program file program schedule

abbrev pub IsBadRun : File → Program → List ℕ → Type 0
IsBadRun file program schedule = IsUnlikeRun file program file program schedule

abbrev pub IsUnjudged : File → Program → Doubt → List ℕ → Type 0
IsUnjudged file program doubt schedule = IsUnjudgedRun file program file program doubt schedule
