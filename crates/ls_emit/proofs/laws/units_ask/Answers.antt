-- Why `units_ask` in src/laws.rt keeps its contract.

use Rattle.ls_emit.proofs.Methods.{ask}
use Rattle.ls_emit.proofs.laws.units_ask.Goals as goal

pub returns : goal.returns
returns c = ask
