-- Why `acting_steps` in src/source_steps.rt keeps its loop `thread`.

use Rattle.std.proofs.Common.{rules, arith}
use Rattle.ls_translation.proofs.Acting.{acting_more, one_more}
use Rattle.ls_translation.proofs.source_steps.acting_steps.Goals as goal

pub loop-thread-preserved : goal.loop-thread-preserved
loop-thread-preserved c = record {
  whole = acting_more c.loop-thread.machine c.take.new.machine c.steps-thread-items.result.now
      c.loop-thread.thread-index 0 c.loop-thread.acting c.take.new.acting _ (search rules) c.in_ok-take.ensures.machine
      c.in_ok-take.ensures.acting c.loop-thread.invariant.whole;
  few = let more = one_more c.loop-thread.acting c.take.new.acting _ _ c.in_ok-take.ensures.acting in
      let few = c.loop-thread.invariant.few in omega arith;
}
