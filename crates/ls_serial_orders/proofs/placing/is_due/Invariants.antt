-- What the loop `i` of `is_due` in src/placing.rt keeps.

use Rattle.std.proofs.Common.{◌≡◌, ℕ, ◌<◌, Some, slice_get, take}
use Rattle.ls_serial.specs.Serial.{AreEnded}
use Rattle.ls_serial_orders.proofs.placing.is_due.Given as goal

abbrev pub invariant-loop-i : goal.invariant-loop-i
invariant-loop-i l =
    (k : ℕ) → k < l.i → slice_get l.history k ≡ Some l.call → AreEnded (take k l.history) l.ends
