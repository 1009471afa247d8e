-- The observer of one history: what of it is still to come.
use Rattle.std.specs.Prelude.{ℕ, Bool, true, false, List, [], ◌∷◌, Option, None, Some, drop, if◌then◌else◌}
use Rattle.ls_events.specs.declared.event.Event.{Event}
use Rattle.ls_linearizable.specs.Same.{same_event}

-- what is left of a history after one event more; nothing if the history goes on otherwise
abbrev pub left_of : List Event → Event → Option (List Event)
left_of [] e = None
left_of (x ∷ rest) e = if same_event x e then Some rest else None

abbrev pub left_after : Option (List Event) → Event → Option (List Event)
left_after None e = None
left_after (Some left) e = left_of left e

-- whether it is over
abbrev pub is_whole : Option (List Event) → Bool
is_whole (Some []) = true
is_whole (Some (x ∷ rest)) = false
is_whole None = false

-- what is left of a history of which so many events have come
abbrev pub left_from : List Event → Option ℕ → Option (List Event)
left_from history None = None
left_from history (Some done) = Some (drop done history)
