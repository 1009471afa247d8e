-- Why `runs_from_start` in src/laws.rt keeps its contract.

use Rattle.ls_progress_laws.proofs.Starting.{runs_from_start}
use Rattle.ls_progress_laws.proofs.laws.runs_from_start.Goals as goal

pub returns : goal.returns
returns c = runs_from_start
