-- Why `returns_first` in src/cases.rt keeps its contract.

use Rattle.std.proofs.Common.{refl}
use Rattle.ls_finally.proofs.cases.returns_first.Goals as goal

pub returns : goal.returns
returns c = refl
