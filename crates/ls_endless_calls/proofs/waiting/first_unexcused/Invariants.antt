-- What the loop `at` of `first_unexcused` in src/waiting.rt keeps.

use Rattle.ls_endless_calls.specs.Waits.{IsPending, IsRunAmong}
use Rattle.ls_serial_search.specs.Histories.{lists_of}
use Rattle.ls_endless_calls.proofs.Places.{AreSo}
use Rattle.ls_endless_calls.proofs.waiting.first_unexcused.Given as goal

abbrev pub invariant-loop-at : goal.invariant-loop-at
invariant-loop-at l = AreSo l.history (λ k y. IsPending l.history y → IsRunAmong (lists_of l.runs) l.history y) l.at
