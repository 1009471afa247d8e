-- The shortest of schedules.
use Rattle.std.specs.Prelude.{◌≤◌, ℕ, List, length}
use Rattle.ls_events.specs.declared.event.Event.{Event}
use Rattle.ls_checked.specs.CheckedTree.{File}
use Rattle.ls_checked.specs.CheckedProgram.{Program}
use Rattle.ls_meaning.specs.Runs.{source_history}

-- no schedule whose history is one of these is shorter
abbrev pub IsShortestOf : (List Event → Type 0) → File → Program → List ℕ → Type 0
IsShortestOf IsOne file program schedule =
    (s : List ℕ) → IsOne (source_history file program s) → length schedule ≤ length s
