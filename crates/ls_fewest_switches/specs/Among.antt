-- The observer of several histories: what of them is still to come.
use Rattle.std.specs.Prelude.{ℕ, Bool, List, [], Some, drop, map, slice_index_or}
use Rattle.std.specs.List.{filter_map, list_any}
use Rattle.ls_events.specs.declared.event.Event.{Event}
use Rattle.ls_fewest_switches.specs.Along.{is_whole, left_of}

-- what is left of histories after one event more, without those that go on otherwise
abbrev pub lefts_after : List (List Event) → Event → List (List Event)
lefts_after lefts e = filter_map (λ left. left_of left e) lefts

-- whether one of them is over
abbrev pub is_one_whole : List (List Event) → Bool
is_one_whole lefts = list_any (λ left. is_whole (Some left)) lefts

-- the history at a place, which has no event if there is none
abbrev pub history_at : List (List Event) → ℕ → List Event
history_at histories at = slice_index_or histories at []

-- what is left of the histories at these places, of which so many events have come
abbrev pub lefts_at : List (List Event) → ℕ → List ℕ → List (List Event)
lefts_at histories done which = map (λ at. drop done (history_at histories at)) which
