-- Why `same_until` in src/machine/running.rt keeps its loop `at`.

use Rattle.std.proofs.Common.{◌+◌, arith}
use Rattle.ls_machine.proofs.Stays.{same_more}
use Rattle.ls_machine.proofs.machine.running.same_until.Goals as goal

pub loop-at-preserved : goal.loop-at-preserved
loop-at-preserved c = same_more c.args.steps.now c.args.from c.loop-at.at (c.loop-at.at + 1) c.args.number 0
    c.loop-at.auto.at (omega arith) c.loop-at-test.true c.if-steps-at.false c.loop-at.invariant
