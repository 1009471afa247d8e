-- Why `batches_merge` in src/merge_laws.rt keeps its clauses `texts`, `merge` and `print`.

use Rattle.ls_batch.proofs.MergedBatches as batched
use Rattle.ls_batch.proofs.merge_laws.batches_merge.Goals as goal

pub returns-clause-texts : goal.returns-clause-texts
returns-clause-texts c = batched.texts_tell_apart

pub returns-clause-merge : goal.returns-clause-merge
returns-clause-merge c = batched.batches_merge

pub returns-clause-print : goal.returns-clause-print
returns-clause-print c = batched.merges_print_the_tally
