-- Why `whole` in src/lib.rt keeps its clauses `due`, `waits_for_a_lock`, `stops_all` and `states`.

use Rattle.std.proofs.Common.{refl}
use Rattle.ls_machine_rows.proofs.whole.Goals as goal

pub returns-clause-due : goal.returns-clause-due
returns-clause-due c = (refl, refl, refl, refl, refl, refl)

pub returns-clause-waits_for_a_lock : goal.returns-clause-waits_for_a_lock
returns-clause-waits_for_a_lock c = refl

pub returns-clause-stops_all : goal.returns-clause-stops_all
returns-clause-stops_all c = (refl, refl, refl, refl)

pub returns-clause-states : goal.returns-clause-states
returns-clause-states c = (refl, refl, refl, refl, refl, refl, refl, refl)
