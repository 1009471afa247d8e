-- Why `throws_on` in src/cases.rt keeps its contract.

use Rattle.std.proofs.Common.{refl}
use Rattle.ls_finally.proofs.cases.throws_on.Goals as goal

pub returns : goal.returns
returns c = refl
