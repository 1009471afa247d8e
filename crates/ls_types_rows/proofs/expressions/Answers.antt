-- Why `expressions` in src/lib.rt keeps its contract.

use Rattle.std.proofs.Common.{refl}
use Rattle.ls_types_rows.proofs.expressions.Goals as goal

pub returns-clause-literals : goal.returns-clause-literals
returns-clause-literals c = (refl, refl, refl, refl, refl, refl, refl)

pub returns-clause-constants : goal.returns-clause-constants
returns-clause-constants c = (refl, refl, refl, refl)

pub returns-clause-integer_is_a_local : goal.returns-clause-integer_is_a_local
returns-clause-integer_is_a_local c = refl

pub returns-clause-names : goal.returns-clause-names
returns-clause-names c = (refl, refl, refl, refl, refl, refl, refl, refl)

pub returns-clause-fields : goal.returns-clause-fields
returns-clause-fields c = (refl, refl, refl, refl, refl, refl)

pub returns-clause-arithmetic : goal.returns-clause-arithmetic
returns-clause-arithmetic c = (refl, refl, refl, refl, refl)

pub returns-clause-comparisons : goal.returns-clause-comparisons
returns-clause-comparisons c = (refl, refl, refl, refl)

pub returns-clause-operands_of_ints : goal.returns-clause-operands_of_ints
returns-clause-operands_of_ints c = (refl, refl, refl, refl, refl)

pub returns-clause-short_circuits : goal.returns-clause-short_circuits
returns-clause-short_circuits c = (refl, refl, refl, refl, refl, refl)

pub returns-clause-signs : goal.returns-clause-signs
returns-clause-signs c = (refl, refl, refl, refl, refl)

pub returns-clause-comparable : goal.returns-clause-comparable
returns-clause-comparable c = (refl, refl, refl, refl, refl, refl, refl, refl, refl)

pub returns-clause-not_comparable : goal.returns-clause-not_comparable
returns-clause-not_comparable c = (refl, refl, refl, refl, refl, refl, refl, refl)
