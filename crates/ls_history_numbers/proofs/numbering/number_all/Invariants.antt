-- What the loop `at` of `number_all` in src/numbering.rt keeps.

use Rattle.std.proofs.Common.{◌≡◌, ℕ, List, Some, length, map}
use Rattle.std.specs.Prelude.{slice_get}
use Rattle.ls_events.specs.declared.event.Event.{Event}
use Rattle.ls_history_numbers.specs.Numbers.{AreNumbered, IsOf}
use Rattle.ls_history_numbers.proofs.numbering.number_all.Given as goal

abbrev pub invariant-loop-at : goal.invariant-loop-at
invariant-loop-at l = record {
  numbered : AreNumbered l.all.items;
  many : length l.numbers.items ≡ l.at;
  each : (i n : ℕ) → slice_get l.numbers.items i ≡ Some n → (h : List Event)
      × (slice_get (map (λ w. w.items) l.histories) i ≡ Some h) × IsOf l.all.items n h;
}
