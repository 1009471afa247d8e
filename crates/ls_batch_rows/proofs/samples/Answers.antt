-- Why `samples` in src/lib.rt keeps its contract.

use Rattle.std.proofs.Common.{refl}
use Rattle.ls_batch.specs.Samples.{draws}
use Rattle.ls_batch_rows.proofs.samples.Goals as goal

pub returns-clause-each_drawn : goal.returns-clause-each_drawn
unfolding draws
returns-clause-each_drawn c = (refl, refl)

pub returns-clause-few_drawn : goal.returns-clause-few_drawn
unfolding draws
returns-clause-few_drawn c = (refl, refl, refl)

pub returns-clause-at_the_ends : goal.returns-clause-at_the_ends
unfolding draws
returns-clause-at_the_ends c = (refl, refl)

pub returns-clause-one_thread : goal.returns-clause-one_thread
unfolding draws
returns-clause-one_thread c = (refl, refl)

pub returns-clause-nothing_drawn : goal.returns-clause-nothing_drawn
unfolding draws
returns-clause-nothing_drawn c = (refl, refl)
