-- What `fill` in src/naming.rt keeps, and why it ends.

use Rattle.std.proofs.Common.{◌≡◌, ◌+◌, ◌-◌, ℕ, length}
use Rattle.ls_orders.specs.Names.{numbered}
use Rattle.ls_orders.proofs.naming.fill.Given as goal

abbrev pub invariant-numbers : goal.invariant-numbers
invariant-numbers l = (k : ℕ) → numbered l.places.items k ≡ numbered l.initial.places.items k

abbrev pub decreases-numbers : goal.decreases-numbers
decreases-numbers l = l.number + 1 - length l.places.items
