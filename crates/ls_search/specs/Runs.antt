-- Runs along schedules, and the numbers of what threads still have to do.
use Rattle.std.specs.Prelude.{◌≡◌, ℕ, List, Some, slice_get}
use Rattle.ls_checked.specs.CheckedTree.{File}
use Rattle.ls_checked.specs.CheckedProgram.{Program}
use Rattle.ls_meaning.specs.Runs.{source_history, source_run}
use Rattle.ls_source.specs.Calls.{Thread}
use Rattle.ls_source.specs.Progress.{Progress}
use Rattle.ls_transitions.specs.Tables.{Table}

-- the run so far after a schedule
abbrev pub progress_at : File → Program → List ℕ → Progress
progress_at file program schedule = record {
  file = file;
  program = program;
  state = source_run file program schedule;
  history = source_history file program schedule;
}

-- the works are those of the threads, one by one
abbrev pub AreNumbered : Table → List ℕ → List Thread → Type 0
AreNumbered t works threads = (i work : ℕ) → slice_get works i ≡ Some work →
    (x : Thread) × (slice_get threads i ≡ Some x) × (slice_get t.works work ≡ Some x)
