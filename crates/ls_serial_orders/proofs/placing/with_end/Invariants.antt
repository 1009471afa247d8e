-- What the loop `i` of `with_end` in src/placing.rt keeps.

use Rattle.std.proofs.Common.{◌≡◌, ◌++◌, drop}
use Rattle.ls_serial_orders.proofs.placing.with_end.Given as goal

abbrev pub invariant-loop-i : goal.invariant-loop-i
invariant-loop-i l = l.more.items ++ drop l.i l.ends ≡ l.ends
