-- What the loop `key` of `Counts::tally` in src/counting.rt keeps, and why the loop ends.

use Rattle.ls_batch.specs.Counted.{count_at, histories_in}
use Rattle.ls_batch.proofs.Taken.{AreTaken}
use Rattle.ls_batch.proofs.counting.Counts.tally.Given as goal

abbrev pub invariant-loop-key : goal.invariant-loop-key
invariant-loop-key l = AreTaken (count_at l.fn.self) (count_at l.rest) l.entries.items

abbrev pub decreases-loop-key : goal.decreases-loop-key
decreases-loop-key l = histories_in l.rest
