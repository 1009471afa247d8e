-- Why `runs_by_step` in src/laws.rt keeps its contract.

use Rattle.ls_search_laws.proofs.Stepping.{one_more}
use Rattle.ls_search_laws.proofs.laws.runs_by_step.Goals as goal

pub returns : goal.returns
returns c = one_more
