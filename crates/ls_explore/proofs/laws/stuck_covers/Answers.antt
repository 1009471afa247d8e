-- Why `stuck_covers` in src/laws.rt keeps its contract.

use Rattle.ls_explore.proofs.Sticking.{stuck_covers}
use Rattle.ls_explore.proofs.laws.stuck_covers.Goals as goal

pub returns : goal.returns
returns c = stuck_covers
