-- Schedules from the start, of paths after the setup.
use Rattle.std.specs.Prelude.{◌≡◌, ◌++◌, ℕ, List, Option, None, Some, replicate}
use Rattle.std.specs.declared.vec.Vec.{Vec}
use Rattle.std.specs.declared.alloc.Global.{Global}
use Rattle.ls_checked.specs.CheckedTree.{File}
use Rattle.ls_checked.specs.CheckedProgram.{Program}
use Rattle.ls_meaning.specs.Runs.{source_history, source_run}
use Rattle.ls_search_laws.specs.Stepping.{ActAll}

-- each of these steps acts, and after them all is as after the schedule
pub record IsActingOf (file : File) (program : Program) (schedule steps : List ℕ) : Type 0 where
  pub acts : ActAll file program steps
  pub state : source_run file program steps ≡ source_run file program schedule
  pub history : source_history file program steps ≡ source_history file program schedule

-- there are such steps for a path after so many steps of the setup, if there is a path
abbrev pub IsWholeOf : File → Program → ℕ → Option (Vec ℕ Global) → Option (Vec ℕ Global) → Type 0
IsWholeOf file program setup None None = Unit {0}
IsWholeOf file program setup (Some path) (Some steps) =
    IsActingOf file program (replicate setup 0 ++ path.items) steps.items
IsWholeOf file program setup None (Some steps) = ⊥
IsWholeOf file program setup (Some path) None = ⊥
