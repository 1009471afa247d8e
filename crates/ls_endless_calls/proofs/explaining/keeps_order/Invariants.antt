-- What the loop `at` of `keeps_order` in src/explaining.rt keeps.

use Rattle.ls_endless_calls.specs.Waits.{KeepsAt}
use Rattle.ls_endless_calls.proofs.Places.{AreSo}
use Rattle.ls_endless_calls.proofs.explaining.keeps_order.Given as goal

abbrev pub invariant-loop-at : goal.invariant-loop-at
invariant-loop-at l = AreSo l.history (λ k y. KeepsAt l.events l.history k) l.at
