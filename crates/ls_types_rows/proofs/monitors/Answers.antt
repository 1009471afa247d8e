-- Why `monitors` in src/lib.rt keeps its contract.

use Rattle.std.proofs.Common.{refl}
use Rattle.ls_types_rows.proofs.monitors.Goals as goal

pub returns-clause-forms : goal.returns-clause-forms
returns-clause-forms c = (refl, refl, refl)

pub returns-clause-jumps_through : goal.returns-clause-jumps_through
returns-clause-jumps_through c = (refl, refl)

pub returns-clause-out_of_block : goal.returns-clause-out_of_block
returns-clause-out_of_block c = refl

pub returns-clause-locked : goal.returns-clause-locked
returns-clause-locked c = (refl, refl, refl, refl, refl, refl, refl, refl)

pub returns-clause-named_slots_alone : goal.returns-clause-named_slots_alone
returns-clause-named_slots_alone c = (refl, refl, refl)

pub returns-clause-synchronized_methods : goal.returns-clause-synchronized_methods
returns-clause-synchronized_methods c = (refl, refl, refl)
