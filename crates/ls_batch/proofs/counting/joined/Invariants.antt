-- What the loop `key` of `joined` in src/counting.rt keeps, and why the loop ends.

use Rattle.std.proofs.Common.{◌≡◌}
use Rattle.ls_batch.specs.Counted.{both, count_at, histories_in}
use Rattle.ls_batch.specs.Numbers.{Key}
use Rattle.ls_batch.proofs.counting.joined.Given as goal

abbrev pub invariant-loop-key : goal.invariant-loop-key
invariant-loop-key l = (k : Key) → both (count_at l.all k) (count_at l.rest k) ≡ both (count_at l.fn.left k)
    (count_at l.fn.right k)

abbrev pub decreases-loop-key : goal.decreases-loop-key
decreases-loop-key l = histories_in l.rest
