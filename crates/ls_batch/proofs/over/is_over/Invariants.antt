-- What the loop `before` of `is_over` in src/over.rt keeps.

use Rattle.ls_batch.specs.Ended.{IsOver}
use Rattle.ls_batch.proofs.over.is_over.Given as goal

abbrev pub invariant-loop-before : goal.invariant-loop-before
invariant-loop-before l = IsOver l.machine l.before
