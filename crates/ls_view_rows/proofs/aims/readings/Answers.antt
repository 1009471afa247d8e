-- Why `readings` in src/aims.rt keeps its clauses `divided`, `said` and `half_quoted`.

use Rattle.std.proofs.Common.{refl}
use Rattle.ls_view_rows.proofs.aims.readings.Goals as goal

pub returns-clause-divided : goal.returns-clause-divided
returns-clause-divided c = refl

pub returns-clause-said : goal.returns-clause-said
returns-clause-said c = (refl, refl, refl, refl, refl)

pub returns-clause-half_quoted : goal.returns-clause-half_quoted
returns-clause-half_quoted c = (refl, refl, refl, refl, refl, refl)
