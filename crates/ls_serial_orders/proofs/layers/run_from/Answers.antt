-- Why `run_from` in src/layers.rt keeps its contract and its loop `i`.

use Rattle.std.proofs.Common.{◌++◌, ◌∷◌, ◌∙◌, [], ap}
use Rattle.ls_serial.proofs.Lists.{is_get}
use Rattle.ls_serial_orders.proofs.Placed.{run_done, run_on}
use Rattle.ls_serial_orders.proofs.layers.run_from.Goals as goal

pub loop-i-preserved : goal.loop-i-preserved
loop-i-preserved c =
    run_on c.args.ends.now c.loop-i.i _ c.loop-i.run.items c.push.new.self.items c.push-in-loop-i.new.self.items
    (is_get c.args.ends.now c.loop-i.i _ c.loop-i-test.true)
    (c.in_ok-push.ensures.items ∙ ap (λ e. c.loop-i.run.items ++ e ∷ []) c.own_call.ensures)
    c.in_ok-push-2.ensures.items c.loop-i.invariant

pub returns : goal.returns
returns c = run_done c.args.ends.now c.loop-i.i c.loop-i.run.items c.loop-i-test.false c.loop-i.invariant
