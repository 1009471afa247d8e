-- What the loop `place` of `keeps_at` in src/explaining.rt keeps.

use Rattle.ls_endless_calls.specs.Waits.{KeepsPair}
use Rattle.ls_endless_calls.proofs.Places.{AreSo}
use Rattle.ls_endless_calls.proofs.explaining.keeps_at.Given as goal

abbrev pub invariant-loop-place : goal.invariant-loop-place
invariant-loop-place l = AreSo l.events (λ k y. KeepsPair l.events k l.history l.at) l.place
