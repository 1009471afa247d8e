-- Why `run_live` in src/running.rt keeps its clause `order`.

use Rattle.std.proofs.Common.{subst}
use Rattle.ls_live.specs.Seats.{AreInOrder}
use Rattle.ls_live.proofs.running.run_live.Goals as goal

pub returns-then-are_in_order-clause-order : goal.returns-then-are_in_order-clause-order
returns-then-are_in_order-clause-order g c =
    subst AreInOrder c.as_slice-then-are_told.ensures.value (c.are_in_order.ensures c.if-are_in_order.true)
