-- Why `take_end` in src/ends.rt keeps its clause `put`.

use Rattle.std.proofs.Common.{None}
use Rattle.ls_orders.proofs.EndLemmas.{end_put}
use Rattle.ls_orders.proofs.ends.take_end.Goals as goal

pub returns-clause-put : goal.returns-clause-put
returns-clause-put c = λ thread number. end_put c.args.ends.now c.remove.new.self c.args.call None
    c.remove.ensures.updates thread number
