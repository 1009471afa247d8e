-- What the loop `i` of `add_row` in src/placing.rt keeps.

use Rattle.ls_serial_orders.proofs.Added.{IsRowSoFar}
use Rattle.ls_serial_orders.proofs.placing.add_row.Given as goal

abbrev pub invariant-loop-i : goal.invariant-loop-i
invariant-loop-i l = IsRowSoFar l.history l.placed l.row l.i l.initial.next.items l.next.items
