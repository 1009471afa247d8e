-- What the loop `i` of `has_no_other` in src/placing.rt keeps.

use Rattle.ls_serial_orders.specs.Placing.{Agrees}
use Rattle.ls_serial_orders.proofs.Firsts.{AreFirst}
use Rattle.ls_serial_orders.proofs.placing.has_no_other.Given as goal

abbrev pub invariant-loop-i : goal.invariant-loop-i
invariant-loop-i l = AreFirst (Agrees l.end) l.history l.i
