-- Why `MachineRun::act` in src/machine_run.rt keeps its clause `run` and its loop `taken`.

use Rattle.std.proofs.Common.{◌-◌, ◌+◌, sym, ◌∙◌, arith}
use Rattle.ls_translation.proofs.MachineRuns.{loud_ends, loud_step, silent_goes, silent_step}
use Rattle.ls_translation.proofs.machine_run.MachineRun.act.Goals as goal

pub returns-then-is_loud-clause-run : goal.returns-then-is_loud-clause-run
returns-then-is_loud-clause-run c =
    loud_ends c.loop-taken.self c.advance.new.self _ (c.args.most - c.loop-taken.taken)
    (c.args.most - (c.loop-taken.taken + 1)) c.args.thread (omega (arith, c.loop-taken-test.true))
    c.in_ok-did.ensures.run (loud_step _ _ c.in_ok-did.ensures.did (sym c.is_loud.ensures ∙ c.if-is_loud.true))
    c.loop-taken.invariant

pub loop-taken-preserved : goal.loop-taken-preserved
loop-taken-preserved c =
    silent_goes c.loop-taken.self c.advance.new.self _ (c.args.most - c.loop-taken.taken)
    (c.args.most - (c.loop-taken.taken + 1)) c.args.thread (omega (arith, c.loop-taken-test.true))
    c.in_ok-did.ensures.run (silent_step _ _ c.in_ok-did.ensures.did (sym c.is_loud.ensures ∙ c.if-is_loud.false))
    c.loop-taken.invariant
