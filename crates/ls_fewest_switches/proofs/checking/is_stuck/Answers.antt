-- Why `is_stuck` in src/checking.rt keeps its contract and its loop `thread`.

use Rattle.std.proofs.Common.{◌≡◌, refl, ap, ◌∙◌, subst, arith}
use Rattle.ls_meaning.specs.Still.{IsStill}
use Rattle.ls_source.specs.Progress.{Progress}
use Rattle.ls_source.specs.Shown.{progress_of}
use Rattle.ls_fewest_switches.proofs.Ending.{did_at, is_waiting, still_more, stays_so, waits_more}
use Rattle.ls_fewest_switches.proofs.checking.is_stuck.Goals as goal

pub loop-thread-init : goal.loop-thread-init
loop-thread-init c = record {
  same = refl;
  still = λ u within. absurd (omega (arith, within));
  waiting = λ e. absurd cc;
}

pub loop-thread-preserved : goal.loop-thread-preserved
loop-thread-preserved c =
    let r : Progress = progress_of c.args.run.now in
    let inv = c.loop-thread.invariant in
    let is : c.in_ok-did.did ≡ did_at r c.loop-thread.thread =
    c.in_ok-did.ensures.did ∙ ap (λ (q : Progress). did_at q c.loop-thread.thread) inv.same in
    let still : IsStill (did_at r c.loop-thread.thread) =
    subst IsStill is (c.is_still.ensures c.if-not-is_still.false) in
    record {
      same = c.in_ok-did.ensures.run ∙ stays_so (progress_of c.loop-thread.run) r c.loop-thread.thread inv.same still;
      still = still_more r c.loop-thread.thread inv.still still;
      waiting = λ e.
          waits_more r c.loop-thread.thread c.loop-thread.waits c.in_ok-did.did is inv.waiting
          (c.waits_with-waits.ensures e);
    }

pub returns : goal.returns
returns c = λ waits.
    let r : Progress = progress_of c.args.run.now in
    let inv = c.loop-thread.invariant in
    is_waiting r c.args.threads c.requires
    (λ u within. inv.still u (omega (arith, within)))
    (inv.waiting waits)
