-- Why `is_over` in src/along.rt keeps its contract.

use Rattle.std.proofs.Common.{sym}
use Rattle.ls_fewest_switches.proofs.Left.{not_whole}
use Rattle.ls_fewest_switches.proofs.along.is_over.Goals as goal

pub returns : goal.returns
returns c = sym (not_whole c.args.history.now c.args.done c.if-done-history.false)
