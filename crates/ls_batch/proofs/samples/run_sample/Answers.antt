-- Why `run_sample` in src/samples.rt keeps its contract and its loop `taken`.

use Rattle.std.proofs.Common.{◌∙◌, ◌≤◌, ◌+◌, ◌-◌, ap, arith, subst, sym}
use Rattle.ls_code.specs.Machine.{machine_run}
use Rattle.ls_batch.proofs.Drawn.{run_step}
use Rattle.ls_batch.proofs.Ended.{next_is_thread, over_run, sample_is}
use Rattle.ls_batch.proofs.samples.run_sample.Goals as goal

pub loop-taken-preserved : goal.loop-taken-preserved
loop-taken-preserved c = record {
  run = run_step c.args.threads c.args.drawing.switch c.loop-taken.last (c.args.drawing.steps - c.loop-taken.taken)
      (c.args.drawing.steps - (c.loop-taken.taken + 1)) c.loop-taken.rng c.next_thread-last.result
      c.next_thread-last.new.rng
      c.loop-taken.machine c.take_step.new.self _ (omega arith)
      c.next_thread-last.ensures.entry c.next_thread-last.ensures.state c.take_step.ensures c.loop-taken.invariant.run;
  there = subst (λ n. n ≤ c.args.threads) (sym c.next_thread-last.ensures.entry)
      (next_is_thread c.args.threads c.args.drawing.switch c.loop-taken.last _ (omega arith)
      c.loop-taken.invariant.there).1;
}

pub returns-then-is_done : goal.returns-then-is_done
returns-then-is_done c =
    let run = run_step c.args.threads c.args.drawing.switch c.loop-taken.last
    (c.args.drawing.steps - c.loop-taken.taken)
    (c.args.drawing.steps - (c.loop-taken.taken + 1)) c.loop-taken.rng c.next_thread-last.result
    c.next_thread-last.new.rng c.loop-taken.machine c.take_step.new.self _ (omega arith)
    c.next_thread-last.ensures.entry c.next_thread-last.ensures.state c.take_step.ensures c.loop-taken.invariant.run in
    let there = subst (λ n. n ≤ c.args.threads) (sym c.next_thread-last.ensures.entry)
    (next_is_thread c.args.threads c.args.drawing.switch c.loop-taken.last _ (omega arith)
    c.loop-taken.invariant.there).1
    in
    over_run c.args.threads c.args.drawing.switch c.next_thread-last.result
    (c.args.drawing.steps - (c.loop-taken.taken + 1)) c.next_thread-last.new.rng c.take_step.new.self _ (omega arith)
    there
    (c.is_done.ensures c.if-is_done.true) run ∙ ap (machine_run c.args.machine.now)
    (sample_is c.args.threads c.args.seed c.args.drawing (omega arith))
