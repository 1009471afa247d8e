-- Where a run stands: all that later lines depend on.
use Rattle.std.specs.Prelude.{◌≡◌, ℕ, ◌+◌, ◌/◌, List, Some, length, slice_get}
use Rattle.ls_checked.specs.CheckedTree.{File}
use Rattle.ls_labels.specs.declared.label.Label.{Label}
use Rattle.ls_labels.specs.Names.{Names}
use Rattle.ls_meaning.specs.Still.{IsStill}
use Rattle.ls_search_laws.specs.Configuration.{Configuration, configuration_of, stride}
use Rattle.ls_trace.specs.Told.{Told, calls_after, labels_after}
use Rattle.ls_choices.specs.Schedules.{told_after}

-- the store and how each thread goes on, the labels of the objects, and the number of each thread's last call
pub record Standing : Type 0 where
  pub configuration : Configuration
  pub labels : List Label
  pub calls : List ℕ

abbrev pub standing_of : Names → Told → Standing
standing_of names r = record {
  configuration = configuration_of names.file names.program r.state;
  labels = r.labels;
  calls = r.calls;
}

-- after a step of a thread
abbrev pub standing_after : File → Standing → ℕ → Standing
standing_after file s thread = record {
  configuration = (stride file s.configuration thread).after;
  labels = labels_after s.labels (stride file s.configuration thread).did;
  calls = calls_after s.calls thread (stride file s.configuration thread).did;
}

-- a run, with a list of answers for each thread, stands there
pub record StandsAt (names : Names) (s : Standing) (r : Told) : Type 0 where
  pub lists : length r.state.answers ≡ length names.program.threads
  pub is : standing_of names r ≡ s

-- each path leads to where a state stands that has its place
pub record AreReached (names : Names) (states : List Standing) (paths : List (List ℕ)) : Type 0 where
  pub many : length paths ≡ length states
  pub each : (number : ℕ) (s : Standing) (path : List ℕ) → slice_get states number ≡ Some s →
      slice_get paths number ≡ Some path → StandsAt names s (told_after names path)

-- ---- steps

-- the thread does nothing there
abbrev pub Rests : File → Standing → ℕ → Type 0
Rests file s thread = IsStill (stride file s.configuration thread).did

-- its step leads there, whatever the mark
abbrev pub LeadsOn : File → Standing → ℕ → ℕ → Standing → Type 0
LeadsOn file s thread mark s' = s' ≡ standing_after file s thread

-- no state is looked for
abbrev pub NoEnd : Standing → Type 0
NoEnd s = ⊥

-- ---- weights

-- what each state weighs with its path: 1 for each object, and 1 for each 16 steps
pub record AreWeights (states : List Standing) (paths : List (List ℕ)) (weights : List ℕ) : Type 0 where
  pub many : length weights ≡ length states
  pub each : (number : ℕ) (s : Standing) (path : List ℕ) → slice_get states number ≡ Some s →
      slice_get paths number ≡ Some path →
      slice_get weights number ≡ Some (length s.configuration.store.things + length path / 16)
