-- Why `sets_up` in src/laws.rt keeps its contract.

use Rattle.ls_explore.proofs.SetUpInTime.{sets_up_all}
use Rattle.ls_explore.proofs.laws.sets_up.Goals as goal

pub returns : goal.returns
returns c = sets_up_all
