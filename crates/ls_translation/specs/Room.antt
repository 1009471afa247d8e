-- The cells that a schedule of the source takes.
use Rattle.std.specs.Prelude.{ℕ, ◌+◌, ◌<◌, List, length, take}
use Rattle.ls_events.specs.declared.value.Value.{Value}
use Rattle.ls_events.specs.declared.action.Action.{Action}
use Rattle.ls_events.specs.declared.action.Action.TheVariants.{New, NewLock, NewMarkable, NewArray}
use Rattle.ls_checked.specs.CheckedTree.{Class, File}
use Rattle.ls_checked.specs.CheckedProgram.{Program}
use Rattle.ls_meaning.specs.Effect.{size_of}
use Rattle.ls_meaning.specs.declared.step.Did.{Did}
use Rattle.ls_meaning.specs.declared.step.Did.TheVariants as did
use Rattle.ls_preservation.specs.Threads.{object_cells}
use Rattle.ls_preservation.specs.Sorts.{fields_of}
use Rattle.ls_preservation.specs.Same.{Fits}

-- the cells of what an action makes
abbrev pub cells_made : List Class → Action Value → ℕ
cells_made classes (New class) = object_cells (length (fields_of classes class))
cells_made classes NewLock = 1
cells_made classes (NewMarkable pair) = 1
cells_made classes (NewArray size) = size_of size + 1
cells_made classes _ = 0

-- the cells of what a step makes
abbrev pub cells_by : List Class → Did → ℕ
cells_by classes (did.Acted action answer) = cells_made classes action
cells_by classes did.Waits = 0
cells_by classes did.Idle = 0

-- The first step of a schedule whose making has no room: the setup names, and what the steps before it make, fit in the
-- cells; with what it makes they don't.
pub record IsFirstUnfit (file : File) (program : Program) (cells : ℕ) (schedule : List ℕ) (step : ℕ) : Type 0 where
  pub there : step < length schedule
  pub before : Fits file program cells (take step schedule)
  pub over : ¬ (Fits file program cells (take (step + 1) schedule))
