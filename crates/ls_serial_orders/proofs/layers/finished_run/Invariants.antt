-- What the loop `i` of `finished_run` in src/layers.rt keeps.

use Rattle.ls_serial.specs.Serial.{AreEnded}
use Rattle.ls_serial_orders.specs.declared.placing.Placed.{Placed}
use Rattle.ls_serial_orders.proofs.Firsts.{AreFirst}
use Rattle.ls_serial_orders.proofs.layers.finished_run.Given as goal

abbrev pub invariant-loop-i : goal.invariant-loop-i
invariant-loop-i l = AreFirst (λ (p : Placed). AreEnded l.history p.ends.items → ⊥) l.layer l.i
