-- Why `judge_calls` in src/judging.rt keeps its loop.
use Rattle.std.proofs.Common.{◌≡◌, ◌+◌, ◌++◌, sym, append-nil, subst}
use Rattle.ls_progress.specs.Ends.{calls_to, keys}
use Rattle.ls_progress.specs.Judged.{AreEndsIn}
use Rattle.ls_progress.proofs.Listing.{ends_more, listed_more}
use Rattle.ls_progress.proofs.judging.judge_calls.Goals as goal

pub loop-done-init : goal.loop-done-init
loop-done-init c = record {
  ends = c.requires.ends;
  listed = sym (append-nil (keys c.args.calls.now.items));
}

pub loop-done-preserved : goal.loop-done-preserved
loop-done-preserved c =
    let l = c.args.labelled in
    let old = c.loop-done.calls.items in
    let x = c.in_ok-ends.ends in
    record {
      ends = subst (AreEndsIn l.scope) (sym c.in_ok-push.ensures.items)
          (ends_more _ _ _ _ old x c.loop-done.invariant.ends c.in_ok-ends.ensures.ends);
      listed = subst (λ calls. keys calls ≡ keys c.args.calls.now.items ++ calls_to l.thread (c.loop-done.done + 1))
          (sym c.in_ok-push.ensures.items)
          (listed_more old x (keys c.args.calls.now.items) l.thread c.loop-done.done c.in_ok-ends.ensures.thread
          c.in_ok-ends.ensures.call c.loop-done.invariant.listed);
    }
