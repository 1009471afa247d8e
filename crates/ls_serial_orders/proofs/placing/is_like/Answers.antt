-- Why `is_like` in src/placing.rt keeps its contract.

use Rattle.std.proofs.Common.{Contains, arith, subst, sym}
use Rattle.ls_serial_orders.proofs.placing.is_like.Goals as goal

pub returns : goal.returns
returns c = λ all. record {
  leaves = omega arith;
  among = λ e there. subst (λ l. Contains l e) c.as_slice-2.ensures.value (c.are_among.ensures all e
      (subst (λ l. Contains l e) (sym c.as_slice.ensures.value) there));
}
