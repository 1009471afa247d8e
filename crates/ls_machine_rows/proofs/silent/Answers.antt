-- Why `silent` in src/lib.rt keeps its contract.

use Rattle.std.proofs.Common.{refl}
use Rattle.ls_machine_rows.proofs.silent.Goals as goal

pub returns-clause-words : goal.returns-clause-words
returns-clause-words c = (refl, refl, refl, refl)

pub returns-clause-locals : goal.returns-clause-locals
returns-clause-locals c = refl

pub returns-clause-arithmetic : goal.returns-clause-arithmetic
returns-clause-arithmetic c = (refl, refl, refl, refl, refl, refl, refl, refl, refl)

pub returns-clause-divisions : goal.returns-clause-divisions
returns-clause-divisions c = (refl, refl, refl, refl, refl, refl, refl)

pub returns-clause-comparisons : goal.returns-clause-comparisons
returns-clause-comparisons c = (refl, refl, refl, refl, refl, refl, refl, refl, refl, refl, refl, refl, refl)

pub returns-clause-equality : goal.returns-clause-equality
returns-clause-equality c = (refl, refl, refl, refl, refl, refl, refl)

pub returns-clause-jumps : goal.returns-clause-jumps
returns-clause-jumps c = (refl, refl, refl, refl, refl)

pub returns-clause-pairs : goal.returns-clause-pairs
returns-clause-pairs c = (refl, refl, refl, refl, refl, refl)

pub returns-clause-nulls : goal.returns-clause-nulls
returns-clause-nulls c = (refl, refl, refl, refl, refl, refl, refl, refl, refl, refl, refl, refl, refl)
