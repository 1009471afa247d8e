-- What `fill` in src/places.rt keeps, and why it ends.

use Rattle.std.proofs.Common.{◌≡◌, ◌+◌, ◌-◌, ℕ, length}
use Rattle.ls_orders.specs.Places.{is_marked}
use Rattle.ls_orders.proofs.places.fill.Given as goal

abbrev pub invariant-marks : goal.invariant-marks
invariant-marks l = (k : ℕ) → is_marked l.marks.items k ≡ is_marked l.initial.marks.items k

abbrev pub decreases-marks : goal.decreases-marks
decreases-marks l = l.place + 1 - length l.marks.items
