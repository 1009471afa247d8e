-- What the objects of a run are called.
use Rattle.std.specs.Prelude.{ℕ, ◌-◌, nat_eq, List, Option, Some, None, slice_get, if◌then◌else◌}
use Rattle.std.specs.List.{filter_map}
use Rattle.ls_events.specs.declared.value.Value.{Value}
use Rattle.ls_events.specs.declared.action.Action.{Action}
use Rattle.ls_events.specs.declared.action.Action.TheVariants.{New, NewLock, NewMarkable, NewArray}
use Rattle.ls_meaning.specs.Steps.{Entry}
use Rattle.ls_labels.specs.declared.label.Label.{Label}
use Rattle.ls_labels.specs.declared.label.Label.TheVariants as labels

-- the label of what an action makes; an action that makes is always answered with a new object
abbrev pub label_of : Action Value → Option Label
label_of (New class) = Some (labels.Class class)
label_of NewLock = Some labels.Lock
label_of (NewMarkable pair) = Some labels.Markable
label_of (NewArray size) = Some labels.Array
label_of _ = None

-- the labels of the objects that the actions of a run have made, in order of making
abbrev pub labels_of : List (Entry Value) → List Label
labels_of entries = filter_map (λ e. label_of e.action) entries

-- object n, counted from 1, has label n - 1; 0 is null
abbrev pub label_at : List Label → ℕ → Option Label
label_at labels o = if nat_eq o 0 then None else slice_get labels (o - 1)
