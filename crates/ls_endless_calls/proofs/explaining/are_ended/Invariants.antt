-- What the loop `place` of `are_ended` in src/explaining.rt keeps.

use Rattle.std.proofs.Common.{Contains}
use Rattle.ls_serial.specs.Serial.{IsEnd}
use Rattle.ls_endless_calls.proofs.Places.{AreSo}
use Rattle.ls_endless_calls.proofs.explaining.are_ended.Given as goal

abbrev pub invariant-loop-place : goal.invariant-loop-place
invariant-loop-place l = AreSo l.history (λ k y. IsEnd y → Contains l.events y) l.place
