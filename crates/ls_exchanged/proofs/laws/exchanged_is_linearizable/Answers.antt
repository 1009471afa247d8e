-- Why `exchanged_is_linearizable` in src/laws.rt keeps its contract.

use Rattle.ls_exchanged.proofs.Linearizable.{linearizable}
use Rattle.ls_exchanged.proofs.laws.exchanged_is_linearizable.Goals as goal

pub returns : goal.returns
returns c = linearizable
