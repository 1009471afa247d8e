-- What the loop `place` of `is_pending` in src/waiting.rt keeps.

use Rattle.ls_serial.specs.Serial.{IsEndOf}
use Rattle.std.proofs.Common.{◌≡◌, Some, slice_get}
use Rattle.ls_events.specs.declared.event.Event.{Event}
use Rattle.ls_endless_calls.proofs.Places.{AreSo}
use Rattle.ls_endless_calls.proofs.waiting.is_pending.Given as goal

abbrev pub invariant-loop-place : goal.invariant-loop-place
invariant-loop-place l =
    AreSo l.history (λ k y. (c : Event) → slice_get l.history l.at ≡ Some c → IsEndOf c y → ⊥) l.place
