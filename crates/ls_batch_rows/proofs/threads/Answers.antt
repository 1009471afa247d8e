-- Why `threads` in src/lib.rt keeps its clauses `drawn_first`, `drawn_by_chance` and `goes_on`.

use Rattle.std.proofs.Common.{refl}
use Rattle.ls_batch_rows.proofs.threads.Goals as goal

pub returns-clause-drawn_first : goal.returns-clause-drawn_first
returns-clause-drawn_first c = (refl, refl, refl, refl, refl, refl)

pub returns-clause-drawn_by_chance : goal.returns-clause-drawn_by_chance
returns-clause-drawn_by_chance c = (refl, refl, refl, refl, refl, refl)

pub returns-clause-goes_on : goal.returns-clause-goes_on
returns-clause-goes_on c = (refl, refl, refl, refl, refl, refl)
