-- What the loop `at` of `first_waiting` in src/waiting.rt keeps.

use Rattle.ls_explore.specs.Rows.{IsEnd}
use Rattle.ls_serial_search.specs.Histories.{lists_of}
use Rattle.ls_endless_calls.proofs.Places.{AreSo}
use Rattle.ls_endless_calls.specs.Waits.{AreExcused}
use Rattle.ls_find.proofs.waiting.first_waiting.Given as goal

abbrev pub invariant-loop-at : goal.invariant-loop-at
invariant-loop-at l = AreSo l.rows (λ k r. IsEnd r.ending → AreExcused (lists_of l.runs) r.history) l.at
