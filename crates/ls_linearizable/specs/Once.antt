-- Histories in which no event stands twice.
use Rattle.std.specs.Prelude.{◌≡◌, ℕ, List, Some, slice_get}
use Rattle.ls_events.specs.declared.event.Event.{Event}

-- no event stands at two places
abbrev pub AreOnce : List Event → Type 0
AreOnce h = (e : Event) (i j : ℕ) → slice_get h i ≡ Some e → slice_get h j ≡ Some e → i ≡ j
