-- Why `histories_are_of_traces` in src/laws.rt keeps its contract.

use Rattle.ls_code.proofs.Runs.{histories}
use Rattle.ls_code.proofs.laws.histories_are_of_traces.Goals as goal

pub returns : goal.returns
returns c = histories
