-- Why `calm_is_good` in src/laws.rt keeps its contract.

use Rattle.ls_any_size.proofs.Goodness.{calm_good}
use Rattle.ls_any_size.proofs.laws.calm_is_good.Goals as goal

pub returns : goal.returns
returns c = calm_good c.pending_calls_wait.ensures.none c.loopless.ensures.none
