-- Why `over_stays` in src/laws.rt keeps its contract.

use Rattle.ls_batch.proofs.Ended.{over_stays}
use Rattle.ls_batch.proofs.laws.over_stays.Goals as goal

pub returns : goal.returns
returns c = over_stays
