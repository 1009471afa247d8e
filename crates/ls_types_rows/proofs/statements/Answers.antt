-- Why `statements` in src/lib.rt keeps its contract.

use Rattle.std.proofs.Common.{refl}
use Rattle.ls_types_rows.proofs.statements.Goals as goal

pub returns-clause-assignments : goal.returns-clause-assignments
returns-clause-assignments c = (refl, refl, refl, refl, refl)

pub returns-clause-not_assigned : goal.returns-clause-not_assigned
returns-clause-not_assigned c = (refl, refl, refl, refl, refl, refl, refl, refl, refl, refl)

pub returns-clause-wrapped : goal.returns-clause-wrapped
returns-clause-wrapped c = (refl, refl, refl, refl, refl, refl, refl, refl)

pub returns-clause-evaluations : goal.returns-clause-evaluations
returns-clause-evaluations c = (refl, refl)

pub returns-clause-declarations : goal.returns-clause-declarations
returns-clause-declarations c = (refl, refl)

pub returns-clause-own_initialiser : goal.returns-clause-own_initialiser
returns-clause-own_initialiser c = refl

pub returns-clause-out_of_scope : goal.returns-clause-out_of_scope
returns-clause-out_of_scope c = (refl, refl, refl, refl)

pub returns-clause-two_of_one_name : goal.returns-clause-two_of_one_name
returns-clause-two_of_one_name c = (refl, refl, refl, refl)

pub returns-clause-own_slots : goal.returns-clause-own_slots
returns-clause-own_slots c = (refl, refl)

pub returns-clause-most_slots : goal.returns-clause-most_slots
returns-clause-most_slots c = (refl, refl)

pub returns-clause-jumps : goal.returns-clause-jumps
returns-clause-jumps c = (refl, refl, refl, refl, refl, refl)

pub returns-clause-no_loops : goal.returns-clause-no_loops
returns-clause-no_loops c = (refl, refl, refl, refl, refl, refl)

pub returns-clause-labels : goal.returns-clause-labels
returns-clause-labels c = (refl, refl, refl)

pub returns-clause-conditions : goal.returns-clause-conditions
returns-clause-conditions c = (refl, refl, refl, refl, refl, refl)

pub returns-clause-for_loops : goal.returns-clause-for_loops
returns-clause-for_loops c = (refl, refl, refl, refl, refl, refl, refl, refl, refl, refl, refl, refl)

pub returns-clause-additions : goal.returns-clause-additions
returns-clause-additions c = (refl, refl, refl, refl, refl, refl, refl, refl, refl, refl)

pub returns-clause-returns : goal.returns-clause-returns
returns-clause-returns c = (refl, refl, refl, refl, refl, refl, refl, refl)
