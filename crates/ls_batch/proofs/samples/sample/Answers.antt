-- Why `sample` in src/samples.rt keeps its loop `preserved`.

use Rattle.std.proofs.Common.{◌+◌, ◌-◌, ℕ, List, ◌++◌, ap, ◌∙◌, arith, rules}
use Rattle.ls_batch.specs.Samples.{draws}
use Rattle.ls_batch.proofs.Drawn.{drawn_step}
use Rattle.ls_batch.proofs.samples.sample.Goals as goal

pub loop-preserved : goal.loop-preserved
loop-preserved c = record {
  drawn = ap (λ (xs : List ℕ). xs ++ draws c.args.threads c.args.drawing.switch c.next_thread-last.result
      (c.args.drawing.steps - (c.loop.counter + 1)) c.next_thread-last.new.rng) c.push_reserved.ensures.items
      ∙ drawn_step c.args.threads c.args.drawing.switch c.loop.last (c.args.drawing.steps - c.loop.counter)
      (c.args.drawing.steps - (c.loop.counter + 1)) c.loop.rng c.next_thread-last.result c.next_thread-last.new.rng
      c.loop.entries.items _ (omega arith)
      c.next_thread-last.ensures.entry c.next_thread-last.ensures.state
      c.loop.invariant.drawn;
  count = search rules;
  room = search rules;
  within = c.next_thread-last.ensures.within c.loop.invariant.within;
}
