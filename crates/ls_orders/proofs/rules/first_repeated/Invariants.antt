-- What the loop `i` of `first_repeated` in src/rules.rt keeps.

use Rattle.std.proofs.Common.{◌≡◌, ◌==◌, ℕ, drop, map}
use Rattle.std.specs.List.{list_any}
use Rattle.ls_orders.specs.Named.{plain_call}
use Rattle.ls_orders.specs.Places.{is_marked}
use Rattle.ls_orders.specs.Rules.{first_repeated}
use Rattle.ls_orders.proofs.rules.first_repeated.Given as goal

abbrev pub invariant-loop-i : goal.invariant-loop-i
invariant-loop-i l = record {
  seen : (k : ℕ) → is_marked l.behind.items k ≡ list_any (λ y. y.called == k) (map plain_call (drop l.i l.order));
  found : l.first ≡ first_repeated (map plain_call (drop l.i l.order));
}
