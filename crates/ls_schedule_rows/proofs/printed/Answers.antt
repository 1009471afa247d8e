-- Why `printed` in src/lib.rt keeps its clauses `no_steps`, `steps_in_a_row` and `names_by_number`.

use Rattle.std.proofs.Common.{refl}
use Rattle.std.specs.Fmt.{digits}
use Rattle.ls_schedule_rows.proofs.printed.Goals as goal

pub returns-clause-no_steps : goal.returns-clause-no_steps
returns-clause-no_steps c = refl

pub returns-clause-steps_in_a_row : goal.returns-clause-steps_in_a_row
unfolding digits
returns-clause-steps_in_a_row c = (refl, refl, refl, refl)

pub returns-clause-names_by_number : goal.returns-clause-names_by_number
returns-clause-names_by_number c = refl
