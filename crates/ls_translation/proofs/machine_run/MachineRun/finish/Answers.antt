-- Why `MachineRun::finish` in src/machine_run.rt keeps its loop `taken`.

use Rattle.std.proofs.Common.{◌-◌, ◌+◌, sym, ◌∙◌, arith}
use Rattle.ls_translation.proofs.MachineRuns.{over_goes}
use Rattle.ls_translation.proofs.machine_run.MachineRun.finish.Goals as goal

pub loop-taken-preserved : goal.loop-taken-preserved
loop-taken-preserved c =
    over_goes c.loop-taken.self c.advance.new.self _ (c.args.most - c.loop-taken.taken)
    (c.args.most - (c.loop-taken.taken + 1)) (omega (arith, c.loop-taken-test.true))
    (sym c.is_set_up.ensures ∙ c.if-is_set_up.false) c.in_ok-_did.ensures.run c.loop-taken.invariant
