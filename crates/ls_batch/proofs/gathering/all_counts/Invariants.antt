-- What the loop `part` of `all_counts` in src/gathering.rt keeps.

use Rattle.ls_batch.proofs.Batched.{AreSoFar}
use Rattle.ls_batch.proofs.gathering.all_counts.Given as goal

abbrev pub invariant-loop-part : goal.invariant-loop-part
invariant-loop-part l = AreSoFar l.yielded l.all
