-- Why `histories_are_exchanged` in src/laws.rt keeps its contract.

use Rattle.ls_exchanged.proofs.Runs.{histories_exchanged}
use Rattle.ls_exchanged.proofs.laws.histories_are_exchanged.Goals as goal

pub returns : goal.returns
returns c = histories_exchanged
