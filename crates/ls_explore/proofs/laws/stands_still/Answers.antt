-- Why `stands_still` in src/laws.rt keeps its contract.

use Rattle.ls_explore.proofs.Endings.{stands_still}
use Rattle.ls_explore.proofs.laws.stands_still.Goals as goal

pub returns : goal.returns
returns c = stands_still
