-- What a search has found, in the terms of the definitions.
use Rattle.std.specs.Prelude.{List, ℕ, map}
use Rattle.ls_events.specs.declared.event.Event.{Event}
use Rattle.ls_checked.specs.CheckedTree.{File}
use Rattle.ls_checked.specs.CheckedProgram.{Program}
use Rattle.ls_search_laws.specs.Noticing.{Noticed}
use Rattle.ls_transitions.specs.Seen.{table_of}
use Rattle.ls_search.specs.declared.searching.Search.{Search}
use Rattle.ls_search.specs.Searched.{IsSound, pairs_at}

abbrev pub states_of : {N S : Type 0} → (N → S) → Search N → List S
states_of stands s = map stands s.pool.values.items

abbrev pub pairs_of : {N S : Type 0} → S → (N → S) → Search N → List (Noticed S)
pairs_of first stands s = pairs_at first (table_of s.transitions) (states_of stands s) s.found.nodes.items

abbrev pub IsSoundSearch : {N S : Type 0} → S → (S → Event → S) → (N → S) → File → Program → ℕ → Search N → Type 0
IsSoundSearch first next stands file program threads s =
    IsSound first next file program threads (table_of s.transitions) (states_of stands s) s.found.nodes.items
