-- Why `tallies_merge` in src/merge_laws.rt keeps its clauses `rows` and `merge`.

use Rattle.ls_batch.proofs.Merged as merged
use Rattle.ls_batch.proofs.merge_laws.tallies_merge.Goals as goal

pub returns-clause-rows : goal.returns-clause-rows
returns-clause-rows c = merged.tallies_are_rows

pub returns-clause-merge : goal.returns-clause-merge
returns-clause-merge c = merged.tallies_merge
