-- Why `tables_decide` in src/laws.rt keeps its contract.

use Rattle.ls_linearity.proofs.Decided.{decided}
use Rattle.ls_linearity.proofs.laws.tables_decide.Goals as goal

pub returns : goal.returns
returns c = decided
