-- Why `exchanged_is_legal` in src/laws.rt keeps its contract.

use Rattle.ls_exchanged.proofs.Naming.{legal}
use Rattle.ls_exchanged.proofs.laws.exchanged_is_legal.Goals as goal

pub returns : goal.returns
returns c = legal
