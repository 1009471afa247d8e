-- Why `acting` in src/lib.rt keeps its contract.

use Rattle.std.proofs.Common.{refl}
use Rattle.ls_machine_rows.proofs.acting.Goals as goal

pub returns-clause-fields : goal.returns-clause-fields
returns-clause-fields c = (refl, refl, refl)

pub returns-clause-items : goal.returns-clause-items
returns-clause-items c = (refl, refl, refl, refl, refl)

pub returns-clause-names : goal.returns-clause-names
returns-clause-names c = (refl, refl, refl)

pub returns-clause-makings : goal.returns-clause-makings
returns-clause-makings c = (refl, refl, refl, refl, refl)

pub returns-clause-locks_in_one_step : goal.returns-clause-locks_in_one_step
returns-clause-locks_in_one_step c = (refl, refl, refl, refl, refl, refl, refl, refl, refl, refl, refl, refl, refl)

pub returns-clause-markables : goal.returns-clause-markables
returns-clause-markables c = (refl, refl, refl, refl, refl, refl, refl)
