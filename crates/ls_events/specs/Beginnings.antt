-- Beginnings of histories.
use Rattle.std.specs.Prelude.{◌≡◌, ◌++◌, List}
use Rattle.ls_events.specs.declared.event.Event.{Event}

-- the events of the first history come first in the second
abbrev pub IsBeginning : List Event → List Event → Type 0
IsBeginning h g = (rest : List Event) × (h ++ rest ≡ g)
