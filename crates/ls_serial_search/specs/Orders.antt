-- Runs along schedules.
use Rattle.std.specs.Prelude.{ℕ, List}
use Rattle.ls_checked.specs.CheckedTree.{File}
use Rattle.ls_checked.specs.CheckedProgram.{Program}
use Rattle.ls_meaning.specs.Runs.{source_history, source_run}
use Rattle.ls_source.specs.Progress.{Progress}

-- the run so far after a schedule
abbrev pub progress_at : File → Program → List ℕ → Progress
progress_at file program schedule = record {
  file = file;
  program = program;
  state = source_run file program schedule;
  history = source_history file program schedule;
}
