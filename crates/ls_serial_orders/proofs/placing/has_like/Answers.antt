-- Why `has_like` in src/placing.rt keeps its contract.

use Rattle.std.proofs.Common.{◌∙◌, Some, ap, sym}
use Rattle.ls_serial.proofs.Lists.{get_contains, is_get}
use Rattle.ls_serial_orders.proofs.placing.has_like.Goals as goal

pub returns-then-is_like : goal.returns-then-is_like
returns-then-is_like c = λ all. record {
  placed = c.index-layer-i.result;
  there = get_contains c.args.layer.now c.loop-i.i c.index-layer-i.result
      (is_get c.args.layer.now c.loop-i.i c.index-layer-i.result c.loop-i-test.true
      ∙ ap Some (sym c.index-layer-i.is));
  like = c.is_like.ensures c.if-is_like.true;
}
