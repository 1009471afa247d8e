-- Why `put_end` in src/ends.rt keeps its clause `put`.

use Rattle.std.proofs.Common.{Some}
use Rattle.ls_orders.proofs.EndLemmas.{end_put}
use Rattle.ls_orders.proofs.ends.put_end.Goals as goal

pub returns-clause-put : goal.returns-clause-put
returns-clause-put c = λ thread number. end_put c.args.ends.now c.insert.new.self c.args.call (Some c.args.end)
    c.in_ok-behind.ensures.updates thread number
