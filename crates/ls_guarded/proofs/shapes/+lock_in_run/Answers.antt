-- Why `lock_in_run` in src/shapes.rt keeps its contract.

use Rattle.ls_guarded.proofs.Holding.{no_first}
use Rattle.ls_guarded.proofs.shapes.+lock_in_run.Goals as goal

pub returns-in-None : goal.returns-in-None
returns-in-None t c = no_first c.lock_in_run.result c.args.ss.now c.s-item.result c.in-len1-up.len_at_least c.s-item.is
    c.in-None.ensures c.lock_in_run.ensures
