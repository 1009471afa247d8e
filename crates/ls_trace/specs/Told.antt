-- What is kept of a run while its steps are told.
use Rattle.std.specs.Prelude.{ℕ, List, [], ◌++◌, map, option_to_list, slice_set}
use Rattle.ls_events.specs.declared.value.Value.{Value}
use Rattle.ls_events.specs.declared.action.Action.{Action}
use Rattle.ls_events.specs.declared.action.Action.TheVariants.{Call}
use Rattle.ls_checked.specs.CheckedProgram.{Program}
use Rattle.ls_meaning.specs.declared.step.Did.{Did}
use Rattle.ls_meaning.specs.declared.step.Did.TheVariants.{Acted, Waits, Idle}
use Rattle.ls_meaning.specs.Runs.{State, Step, start, step}
use Rattle.ls_labels.specs.declared.label.Label.{Label}
use Rattle.ls_labels.specs.Labels.{label_of}
use Rattle.ls_labels.specs.Names.{Names}

-- a run so far: its state, the labels of the objects that it has made, and the number of each thread's last call
pub record Told : Type 0 where
  pub state : State
  pub labels : List Label
  pub calls : List ℕ

abbrev pub begun : Program → Told
begun program = record { state = start program; labels = []; calls = map (λ t. 0) program.threads }

-- a making gives its object a label
abbrev pub labels_after : List Label → Did → List Label
labels_after labels (Acted action answer) = labels ++ option_to_list (label_of action)
labels_after labels Waits = labels
labels_after labels Idle = labels

-- a call is its thread's last from its call event on
abbrev pub call_noted : List ℕ → ℕ → Action Value → List ℕ
call_noted calls thread (Call n) = slice_set calls thread n
call_noted calls thread _ = calls

abbrev pub calls_after : List ℕ → ℕ → Did → List ℕ
calls_after calls thread (Acted action answer) = call_noted calls thread action
calls_after calls thread Waits = calls
calls_after calls thread Idle = calls

abbrev pub step_in : Names → Told → ℕ → Step
step_in names r thread = step names.file names.program r.state thread

-- the run after a step of a thread
abbrev pub after_step : Names → Told → ℕ → Told
after_step names r thread = record {
  state = (step_in names r thread).after;
  labels = labels_after r.labels (step_in names r thread).did;
  calls = calls_after r.calls thread (step_in names r thread).did;
}
