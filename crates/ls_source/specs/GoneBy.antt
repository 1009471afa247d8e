-- The run after a given step.
use Rattle.std.specs.Prelude.{ℕ, [], ◌++◌}
use Rattle.ls_meaning.specs.Steps.{traced}
use Rattle.ls_meaning.specs.Runs.{Step, stepped, history_of}
use Rattle.ls_source.specs.Progress.{Progress}

abbrev pub gone_by : Progress → ℕ → Step → Progress
gone_by r thread st = record {
  file = r.file;
  program = r.program;
  state = st.after;
  history = r.history ++ history_of (traced (stepped thread st.did st.after) []);
}
