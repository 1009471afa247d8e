-- Why `breaks_through` in src/cases.rt keeps its contract.

use Rattle.std.proofs.Common.{refl}
use Rattle.ls_finally.proofs.cases.breaks_through.Goals as goal

pub returns : goal.returns
returns c = refl
