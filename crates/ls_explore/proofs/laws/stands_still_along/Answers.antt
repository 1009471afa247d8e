-- Why `stands_still_along` in src/laws.rt keeps its contract.

use Rattle.ls_explore.proofs.Endings.{stands_still_along}
use Rattle.ls_explore.proofs.laws.stands_still_along.Goals as goal

pub returns : goal.returns
returns c = stands_still_along
