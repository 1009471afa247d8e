-- What the loop `i` of `are_ended` in src/placing.rt keeps.

use Rattle.std.proofs.Common.{take}
use Rattle.ls_serial.specs.Serial.{AreEnded}
use Rattle.ls_serial_orders.proofs.placing.are_ended.Given as goal

abbrev pub invariant-loop-i : goal.invariant-loop-i
invariant-loop-i l = AreEnded (take l.i l.events) l.ends
