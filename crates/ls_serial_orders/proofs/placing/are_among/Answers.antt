-- Why `are_among` in src/placing.rt keeps its contract and its loop `i`.

use Rattle.std.proofs.Common.{Contains}
use Rattle.ls_serial.proofs.Lists.{is_get}
use Rattle.ls_serial_orders.proofs.Firsts.{first_all, first_more}
use Rattle.ls_serial_orders.proofs.placing.are_among.Goals as goal

pub loop-i-preserved : goal.loop-i-preserved
loop-i-preserved c =
    first_more (Contains c.args.others.now) c.args.ends.now c.loop-i.i _
    (is_get c.args.ends.now c.loop-i.i _ c.loop-i-test.true) (c.has.ensures.0 c.if-not-has.false) c.loop-i.invariant

pub returns : goal.returns
returns c = λ all. λ e there.
    first_all (Contains c.args.others.now) c.args.ends.now c.loop-i.i c.loop-i-test.false c.loop-i.invariant e there
