-- What the loop `place` of `are_called` in src/explaining.rt keeps.

use Rattle.std.proofs.Common.{Contains}
use Rattle.ls_serial.specs.Serial.{IsCall}
use Rattle.ls_endless_calls.proofs.Places.{AreSo}
use Rattle.ls_endless_calls.proofs.explaining.are_called.Given as goal

abbrev pub invariant-loop-place : goal.invariant-loop-place
invariant-loop-place l = AreSo l.events (λ k y. IsCall y → Contains l.history y) l.place
