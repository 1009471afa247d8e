-- What the loop `i` of `next_layer` in src/layers.rt keeps.

use Rattle.ls_serial_orders.proofs.Added.{IsNextSoFar}
use Rattle.ls_serial_orders.proofs.layers.next_layer.Given as goal

abbrev pub invariant-loop-i : goal.invariant-loop-i
invariant-loop-i l = IsNextSoFar l.rows l.history l.layer l.i l.next.items
