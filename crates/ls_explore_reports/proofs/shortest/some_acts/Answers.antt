-- Why `some_acts` in src/shortest.rt keeps its contract and its loop `thread`.

use Rattle.std.proofs.Common.{◌≡◌, ◌∙◌, ap, subst}
use Rattle.ls_meaning.specs.Still.{IsActing, IsStill}
use Rattle.ls_source.specs.Progress.{Progress}
use Rattle.ls_source.specs.Shown.{progress_of}
use Rattle.ls_fewest_switches.proofs.Ending.{did_at, stays_so}
use Rattle.ls_explore_reports.proofs.shortest.some_acts.Goals as goal

pub loop-thread-preserved : goal.loop-thread-preserved
loop-thread-preserved c =
    let r : Progress = progress_of c.args.run.now in
    let is : c.in_ok-did.did ≡ did_at r c.loop-thread.thread =
    c.in_ok-did.ensures.did ∙ ap (λ (q : Progress). did_at q c.loop-thread.thread) c.loop-thread.invariant in
    let still : IsStill (did_at r c.loop-thread.thread) =
    subst IsStill is (c.has_acted.ensures.still c.if-has_acted.false) in
    c.in_ok-did.ensures.run ∙ stays_so (progress_of c.loop-thread.run) r c.loop-thread.thread
    c.loop-thread.invariant still

pub returns-then-has_acted : goal.returns-then-has_acted
returns-then-has_acted c = λ yes.
    let r : Progress = progress_of c.args.run.now in
    let is : c.in_ok-did.did ≡ did_at r c.loop-thread.thread =
    c.in_ok-did.ensures.did ∙ ap (λ (q : Progress). did_at q c.loop-thread.thread) c.loop-thread.invariant in
    (c.loop-thread.thread, subst IsActing is (c.has_acted.ensures.acts c.if-has_acted.true))
