-- What the loop `i` of `are_values` in src/naming.rt keeps.

use Rattle.std.proofs.Common.{◌≡◌, take}
use Rattle.ls_serial_orders.proofs.naming.are_values.Given as goal

-- they are the same so far
abbrev pub invariant-loop-i : goal.invariant-loop-i
invariant-loop-i l = take l.i l.values ≡ take l.i l.others
