-- Why `add_row` in src/placing.rt keeps its contract and its loop `i`.

use Rattle.std.proofs.Common.{List, subst}
use Rattle.ls_serial.proofs.Lists.{is_get}
use Rattle.ls_automaton.specs.declared.outcome.Outcome.{Outcome}
use Rattle.ls_serial_orders.specs.Placing.{IsRowAdded}
use Rattle.ls_serial_orders.proofs.Added.{row_all, row_more, row_none}
use Rattle.ls_serial_orders.proofs.placing.add_row.Goals as goal

pub loop-i-init : goal.loop-i-init
loop-i-init c = row_none c.args.history.now c.args.placed.now c.row_at-row.result.now c.args.next.now.items

pub loop-i-preserved : goal.loop-i-preserved
loop-i-preserved c =
    row_more c.args.history.now c.args.placed.now c.row_at-row.result.now c.loop-i.i _ c.args.next.now.items
    c.loop-i.next.items c.add_next.new.next.items (is_get c.row_at-row.result.now c.loop-i.i _ c.loop-i-test.true)
    c.loop-i.invariant c.in_ok-add_next.ensures

pub returns : goal.returns
returns c =
    subst (λ (r : List Outcome). IsRowAdded c.args.history.now c.args.placed.now r c.args.next.now.items
    c.loop-i.next.items) c.row_at-row.ensures
    (row_all c.args.history.now c.args.placed.now c.row_at-row.result.now c.loop-i.i c.args.next.now.items
    c.loop-i.next.items c.loop-i-test.false c.loop-i.invariant)
