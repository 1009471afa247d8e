-- Why `linearizable_is_legal` in src/laws.rt keeps its contract.

use Rattle.ls_legal_laws.proofs.Explained.{linearizable}
use Rattle.ls_legal_laws.proofs.laws.linearizable_is_legal.Goals as goal

pub returns : goal.returns
returns c = linearizable
