-- Why `mark_all` in src/items.rt keeps its contract and its loop `call`.

use Rattle.std.proofs.Common.{◌<◌, arith, length}
use Rattle.ls_orders.proofs.RuleLemmas.{no_call}
use Rattle.ls_order_search.proofs.Settling.{marked_all, marked_more}
use Rattle.ls_order_search.proofs.items.mark_all.Goals as goal

pub loop-call-preserved : goal.loop-call-preserved
loop-call-preserved c =
    let order = c.args.order.now in
    let i = c.loop-call.call-index in
    let lt : i < length order = omega arith in
    marked_more c.args.marks.now.items c.loop-call.marks.items c.mark.new.marks.items order i no_call lt
    c.loop-call.invariant c.in_ok-mark.ensures

pub returns : goal.returns
returns c = marked_all c.args.marks.now.items c.loop-call.marks.items c.args.order.now c.loop-call.call-index
    (omega arith) c.loop-call.invariant
