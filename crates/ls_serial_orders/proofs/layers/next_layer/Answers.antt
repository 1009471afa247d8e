-- Why `next_layer` in src/layers.rt keeps its contract and its loop `i`.

use Rattle.std.proofs.Common.{◌∙◌, Some, ap, sym}
use Rattle.ls_serial.proofs.Lists.{is_get}
use Rattle.ls_serial_orders.proofs.Added.{next_all, next_more, next_none}
use Rattle.ls_serial_orders.proofs.layers.next_layer.Goals as goal

pub loop-i-init : goal.loop-i-init
loop-i-init c =
    next_none c.args.rows.now c.args.history.now c.args.layer.now c.new-next.result.items c.new-next.ensures.items

pub loop-i-preserved : goal.loop-i-preserved
loop-i-preserved c =
    next_more c.args.rows.now c.args.history.now c.args.layer.now c.loop-i.i c.index-layer-i.result c.loop-i.next.items
    c.add_row.new.next.items
    (is_get c.args.layer.now c.loop-i.i c.index-layer-i.result c.loop-i-test.true ∙ ap Some (sym c.index-layer-i.is))
    c.loop-i.invariant c.in_ok-add_row.ensures

pub returns : goal.returns
returns c =
    next_all c.args.rows.now c.args.history.now c.args.layer.now c.loop-i.i c.loop-i.next.items c.loop-i-test.false
    c.loop-i.invariant
