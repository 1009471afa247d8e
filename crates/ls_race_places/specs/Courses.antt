-- The methods that a thread has entered in its call, along a run.
use Rattle.std.specs.Prelude.{ℕ, Bool, List, [], ◌∷◌, ◌++◌, if◌then◌else◌, nat_eq, option_to_list}
use Rattle.std.specs.List.{list_any}
use Rattle.std.specs.Str.{bytes_eq}
use Rattle.ls_events.specs.declared.action.Action.{Action}
use Rattle.ls_events.specs.declared.action.Action.TheVariants.{Call, Enter}
use Rattle.ls_events.specs.declared.value.Value.{Value}
use Rattle.ls_labels.specs.Labels.{label_of}
use Rattle.ls_labels.specs.Names.{Names, method_name}
use Rattle.ls_labels.specs.declared.label.Label.{Label}
use Rattle.ls_meaning.specs.declared.step.Did.{Did}
use Rattle.ls_meaning.specs.declared.step.Did.TheVariants.{Acted, Waits, Idle}
use Rattle.ls_meaning.specs.Runs.{State, start, step}
use Rattle.ls_race_places.specs.Scopes.{Text}

-- the state, the labels of the objects that were made, and the methods that a thread has entered in its call
pub record Course : Type 0 where
  pub state : State
  pub labels : List Label
  pub methods : List Text

abbrev pub first_course : Names → Course
first_course names = record { state = start names.program; labels = []; methods = [] }

-- a method is kept once
abbrev pub with_method : List Text → Text → List Text
with_method methods method = if list_any (λ m. bytes_eq m method) methods then methods else methods ++ method ∷ []

-- a call begins with none
abbrev pub entered_with : Names → List Text → Action Value → List Text
entered_with names methods (Call n) = []
entered_with names methods (Enter m) = with_method methods (method_name names m)
entered_with names methods _ = methods

abbrev pub entered_if : Bool → Names → List Text → Action Value → List Text
entered_if own names methods action = if own then entered_with names methods action else methods

-- of a thread, after what a thread did, and whether it is the same
abbrev pub course_with : Names → Bool → Course → State → Did → Course
course_with names own c after (Acted action answer) = record {
  state = after;
  labels = c.labels ++ option_to_list (label_of action);
  methods = entered_if own names c.methods action;
}
course_with names own c after Waits = record { state = after; labels = c.labels; methods = c.methods }
course_with names own c after Idle = record { state = after; labels = c.labels; methods = c.methods }

abbrev pub did_in : Names → Course → ℕ → Did
did_in names c thread = (step names.file names.program c.state thread).did

abbrev pub course_after : Names → ℕ → Course → ℕ → Course
course_after names of c thread =
    course_with names (nat_eq thread of) c (step names.file names.program c.state thread).after (did_in names c thread)

-- after these steps
abbrev pub course_along : Names → ℕ → Course → List ℕ → Course
course_along names of c [] = c
course_along names of c (t ∷ ts) = course_along names of (course_after names of c t) ts
