-- What the loop `at` of `is_run_among` in src/waiting.rt keeps.

use Rattle.ls_endless_calls.specs.Waits.{IsRunTo}
use Rattle.ls_serial_search.specs.Histories.{lists_of}
use Rattle.ls_endless_calls.proofs.Places.{AreSo}
use Rattle.ls_endless_calls.proofs.waiting.is_run_among.Given as goal

abbrev pub invariant-loop-at : goal.invariant-loop-at
invariant-loop-at l = AreSo (lists_of l.runs) (λ k run. IsRunTo run l.history l.call → ⊥) l.at
