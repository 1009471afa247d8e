-- Why `sizes` in src/lengths.rt keeps its clauses `units`, `methods`, `code` and `floor`.

use Rattle.ls_linker.proofs.Sizes.{method_sized}
use Rattle.ls_linker.proofs.Whole.{code_holds, code_short, keeps_floor}
use Rattle.ls_linker.proofs.lengths.sizes.Goals as goal

pub returns-clause-units : goal.returns-clause-units
returns-clause-units c = method_sized

pub returns-clause-methods : goal.returns-clause-methods
returns-clause-methods c = code_holds

pub returns-clause-code : goal.returns-clause-code
returns-clause-code c = code_short

pub returns-clause-floor : goal.returns-clause-floor
returns-clause-floor c = keeps_floor
