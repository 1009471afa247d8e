-- Why `push_again` in src/repeating.rt keeps its loop `index`.

use Rattle.std.proofs.Common.{◌+◌, get_or, ap, arith}
use Rattle.std.proofs.lemmas.Grind.{common_steps}
use Rattle.ls_schedule.proofs.OnceMore.{pushed_again}
use Rattle.ls_schedule.proofs.repeating.push_again.Goals as goal

pub loop-index-preserved : goal.loop-index-preserved
loop-index-preserved c = record {
  done = pushed_again _ _ _ c.args.from c.loop-index.index c.args.len _ c.loop-index.invariant.done
      c.loop-index-test.true c.requires.within (ap (λ l. get_or l (c.args.from + c.loop-index.index) 0) c.steps.ensures)
      c.in_ok-push.ensures.added;
  few = grind (arith, common_steps);
}
