-- What a run leaves.
use Rattle.std.specs.Prelude.{ℕ, List, [], ◌++◌, option_to_list}
use Rattle.ls_events.specs.declared.event.Event.{Event}
use Rattle.ls_meaning.specs.declared.step.Did.{Did}
use Rattle.ls_meaning.specs.declared.step.Did.TheVariants.{Acted, Waits, Idle}
use Rattle.ls_meaning.specs.Steps.{traced}
use Rattle.ls_meaning.specs.Runs.{State, history_of, source_run, source_step, source_trace, source_history, step}
use Rattle.ls_labels.specs.declared.label.Label.{Label}
use Rattle.ls_labels.specs.Labels.{label_of, labels_of}
use Rattle.ls_labels.specs.Names.{Names}

-- the state after a schedule, the labels of the objects that it has made, and the events so far
pub record Scene : Type 0 where
  pub state : State
  pub labels : List Label
  pub history : List Event

abbrev pub scene_of : Names → List ℕ → Scene
scene_of names schedule = record {
  state = source_run names.file names.program schedule;
  labels = labels_of (source_trace names.file names.program schedule);
  history = source_history names.file names.program schedule;
}

-- the label of the object that a step has made
abbrev pub made_by : Did → List Label
made_by (Acted action answer) = option_to_list (label_of action)
made_by Waits = []
made_by Idle = []

-- a scene after one more step, of a thread
abbrev pub scene_after : Names → Scene → ℕ → Scene
scene_after names scene thread = record {
  state = (step names.file names.program scene.state thread).after;
  labels = scene.labels ++ made_by (step names.file names.program scene.state thread).did;
  history = scene.history ++ history_of (traced (source_step names.file names.program scene.state thread) []);
}
