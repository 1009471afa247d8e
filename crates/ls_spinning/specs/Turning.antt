-- Threads that turn for ever.
use Rattle.std.specs.Prelude.{◌≡◌, ℕ, List, ◌++◌}
use Rattle.ls_checked.specs.CheckedTree.{File}
use Rattle.ls_checked.specs.CheckedProgram.{Program}
use Rattle.ls_meaning.specs.Runs.{source_history, source_run, step}
use Rattle.ls_meaning.specs.Still.{IsActing}

-- After each schedule that begins with this one, of any length, some thread acts, and no event has come since.
pub record TurnsForEver (file : File) (program : Program) (schedule : List ℕ) : Type 0 where
  pub acts : (more : List ℕ) →
      (t : ℕ) × IsActing (step file program (source_run file program (schedule ++ more)) t).did
  pub silent : (more : List ℕ) →
      source_history file program (schedule ++ more) ≡ source_history file program schedule

-- no schedule, of any length, is so
abbrev pub NeverTurns : File → Program → Type 0
NeverTurns file program = (schedule : List ℕ) → TurnsForEver file program schedule → ⊥
