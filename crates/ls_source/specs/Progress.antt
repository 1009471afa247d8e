-- A source run so far.
use Rattle.std.specs.Prelude.{ℕ, List, [], ◌++◌}
use Rattle.ls_events.specs.declared.event.Event.{Event}
use Rattle.ls_checked.specs.CheckedTree.{File}
use Rattle.ls_checked.specs.CheckedProgram.{Program}
use Rattle.ls_meaning.specs.Steps.{traced}
use Rattle.ls_meaning.specs.Runs.{State, start, step, source_step, history_of}

-- the run of a program of a file so far: the state, and the events that have happened
pub record Progress : Type 0 where
  pub file : File
  pub program : Program
  pub state : State
  pub history : List Event

-- a run that hasn't made a step
abbrev pub begun : File → Program → Progress
begun file program = record { file = file; program = program; state = start program; history = [] }

-- the run after one more step, of a thread
abbrev pub gone_on : Progress → ℕ → Progress
gone_on r thread = record {
  file = r.file;
  program = r.program;
  state = (step r.file r.program r.state thread).after;
  history = r.history ++ history_of (traced (source_step r.file r.program r.state thread) []);
}
