-- Why `runs_keep` in src/laws.rt keeps its contract.

use Rattle.ls_machine.proofs.Back.{runs_keep}
use Rattle.ls_machine.proofs.laws.runs_keep.Goals as goal

pub returns : goal.returns
returns c = runs_keep
