-- Why `steps_from` in src/tabling.rt keeps its loop `i`.

use Rattle.std.proofs.Common.{subst, sym}
use Rattle.ls_source_judge.specs.Stepped.{AreStepsOf}
use Rattle.ls_source_judge.proofs.Steps.{grows_along, row_more}
use Rattle.ls_source_judge.proofs.tabling.steps_from.Goals as goal

pub loop-i-preserved : goal.loop-i-preserved
loop-i-preserved c = record {
  grows = grows_along c.args.known.now.items c.loop-i.known.items c.step_then.new.known.items c.loop-i.invariant.grows
      c.in_ok-step.ensures.grows;
  steps = subst (AreStepsOf c.args.rows.now c.step_then.new.known.items c.args.at) (sym c.in_ok-push.ensures.items)
      (row_more c.args.rows.now c.loop-i.known.items c.step_then.new.known.items c.args.at c.loop-i.steps.items
      c.in_ok-step.step c.in_ok-step.ensures.grows c.loop-i.invariant.steps c.in_ok-step.ensures.leads);
}
