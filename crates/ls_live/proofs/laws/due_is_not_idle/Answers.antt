-- Why `due_is_not_idle` in src/laws.rt keeps its contract.

use Rattle.ls_live.proofs.Due.{none_is_idle}
use Rattle.ls_live.proofs.laws.due_is_not_idle.Goals as goal

pub returns : goal.returns
returns c = none_is_idle
