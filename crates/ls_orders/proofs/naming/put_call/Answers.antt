-- Why `put_call` in src/naming.rt keeps its contract.

use Rattle.std.proofs.Common.{arith}
use Rattle.ls_orders.proofs.NameLemmas.{text_at}
use Rattle.ls_orders.proofs.naming.put_call.Goals as goal

pub returns : goal.returns
returns c =
    let e = c.index-events-called.result in (
      e.thread.now,
      e.call,
      omega arith,
      text_at c.args.events.now c.args.called e c.requires c.index-events-called.is,
      c.put_place.ensures,
    )
