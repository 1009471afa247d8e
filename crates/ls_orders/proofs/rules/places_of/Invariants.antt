-- What the loop `call` of `places_of` in src/rules.rt keeps.

use Rattle.std.proofs.Common.{◌≡◌, ◌==◌, ℕ, map, take}
use Rattle.std.specs.List.{list_any}
use Rattle.ls_orders.specs.Named.{plain_call}
use Rattle.ls_orders.specs.Places.{is_marked}
use Rattle.ls_orders.proofs.rules.places_of.Given as goal

abbrev pub invariant-loop-call : goal.invariant-loop-call
invariant-loop-call l = (k : ℕ) → is_marked l.places.items k ≡ list_any (λ y. y.called == k)
    (map plain_call (take l.call-index l.order))
