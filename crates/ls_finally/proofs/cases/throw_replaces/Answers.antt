-- Why `throw_replaces` in src/cases.rt keeps its contract.

use Rattle.std.proofs.Common.{refl}
use Rattle.ls_finally.proofs.cases.throw_replaces.Goals as goal

pub returns : goal.returns
returns c = refl
