-- What the loop `i` of `are_among` in src/placing.rt keeps.

use Rattle.std.proofs.Common.{Contains}
use Rattle.ls_serial_orders.proofs.Firsts.{AreFirst}
use Rattle.ls_serial_orders.proofs.placing.are_among.Given as goal

abbrev pub invariant-loop-i : goal.invariant-loop-i
invariant-loop-i l = AreFirst (Contains l.others) l.ends l.i
