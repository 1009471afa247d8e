-- Why `histories_alike` in src/laws.rt keeps its contract.

use Rattle.ls_search_laws.proofs.Histories.{histories_alike}
use Rattle.ls_search_laws.proofs.laws.histories_alike.Goals as goal

pub returns : goal.returns
returns c = histories_alike
