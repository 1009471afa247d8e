-- Why `example` in src/laws.rt keeps its contract.

use Rattle.std.proofs.Common.{refl}
use Rattle.ls_linker.proofs.laws.example.Goals as goal

pub returns : goal.returns
returns c = refl
