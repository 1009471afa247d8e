-- What the loop `at` of `find_longer` in src/numbering.rt keeps.

use Rattle.std.proofs.Common.{◌≡◌, ℕ, ◌<◌, ◌++◌, ◌∷◌, [], List, Some}
use Rattle.std.specs.Prelude.{slice_get}
use Rattle.ls_events.specs.declared.event.Event.{Event}
use Rattle.ls_history_numbers.specs.declared.numbering.Known.{Known}
use Rattle.ls_history_numbers.proofs.numbering.find_longer.Given as goal

abbrev pub invariant-loop-at : goal.invariant-loop-at
invariant-loop-at l =
    (i n : ℕ) → i < l.at → slice_get l.longer i ≡ Some n → (k : Known) (g : List Event) (e : Event) →
    slice_get l.all n ≡ Some k → k.events.items ≡ g ++ e ∷ [] → (e ≡ l.event → ⊥)
