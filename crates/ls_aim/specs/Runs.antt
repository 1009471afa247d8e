-- A run on which targets are looked for.
use Rattle.std.specs.Prelude.{ℕ, List, [], ◌∷◌, ◌++◌, option_to_list}
use Rattle.ls_checked.specs.CheckedProgram.{Program}
use Rattle.ls_meaning.specs.declared.step.Did.{Did}
use Rattle.ls_meaning.specs.declared.step.Did.TheVariants.{Acted, Waits, Idle}
use Rattle.ls_meaning.specs.Runs.{State, Step, start, step}
use Rattle.ls_labels.specs.declared.label.Label.{Label}
use Rattle.ls_labels.specs.Labels.{label_of}
use Rattle.ls_labels.specs.Names.{Names}

-- a run so far: its state, and the labels of the objects that it has made
pub record Run : Type 0 where
  pub state : State
  pub labels : List Label

abbrev pub begun : Program → Run
begun program = record { state = start program; labels = [] }

abbrev pub labels_after : List Label → Did → List Label
labels_after labels (Acted action answer) = labels ++ option_to_list (label_of action)
labels_after labels Waits = labels
labels_after labels Idle = labels

abbrev pub step_in : Names → Run → ℕ → Step
step_in names r thread = step names.file names.program r.state thread

-- the run after a step of a thread
abbrev pub after_step : Names → Run → ℕ → Run
after_step names r thread = record {
  state = (step_in names r thread).after;
  labels = labels_after r.labels (step_in names r thread).did;
}

-- and after these steps
abbrev pub after : Names → Run → List ℕ → Run
after names r [] = r
after names r (t ∷ ts) = after names (after_step names r t) ts

-- the run of a schedule
abbrev pub run_of : Names → List ℕ → Run
run_of names steps = after names (begun names.program) steps
