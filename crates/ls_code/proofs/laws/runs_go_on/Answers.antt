-- Why `runs_go_on` in src/laws.rt keeps its contract.

use Rattle.ls_code.proofs.Runs.{go_on}
use Rattle.ls_code.proofs.laws.runs_go_on.Goals as goal

pub returns : goal.returns
returns c = go_on
