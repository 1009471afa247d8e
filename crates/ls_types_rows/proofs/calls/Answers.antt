-- Why `calls` in src/lib.rt keeps its contract.

use Rattle.std.proofs.Common.{refl}
use Rattle.ls_types_rows.proofs.calls.Goals as goal

pub returns-clause-methods : goal.returns-clause-methods
returns-clause-methods c = (refl, refl, refl, refl, refl, refl, refl, refl, refl)

pub returns-clause-arguments : goal.returns-clause-arguments
returns-clause-arguments c = (refl, refl, refl, refl, refl, refl, refl, refl, refl)

pub returns-clause-locks : goal.returns-clause-locks
returns-clause-locks c = (refl, refl, refl, refl, refl, refl)

pub returns-clause-markables : goal.returns-clause-markables
returns-clause-markables c = (refl, refl, refl, refl, refl, refl, refl)

pub returns-clause-other_arguments_of_markables : goal.returns-clause-other_arguments_of_markables
returns-clause-other_arguments_of_markables c = (refl, refl, refl, refl, refl, refl, refl)

pub returns-clause-makings : goal.returns-clause-makings
returns-clause-makings c = (refl, refl, refl, refl, refl, refl, refl, refl, refl, refl, refl, refl)

pub returns-clause-arrays : goal.returns-clause-arrays
returns-clause-arrays c = (refl, refl, refl, refl, refl, refl)
