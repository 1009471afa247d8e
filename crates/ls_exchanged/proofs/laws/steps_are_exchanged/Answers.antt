-- Why `steps_are_exchanged` in src/laws.rt keeps its contract.

use Rattle.ls_exchanged.proofs.Runs.{steps_exchanged}
use Rattle.ls_exchanged.proofs.laws.steps_are_exchanged.Goals as goal

pub returns : goal.returns
returns c = steps_exchanged
