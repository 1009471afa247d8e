-- Why `livelock_by` in src/livelocks.rt keeps its contract.
use Rattle.ls_progress_laws.specs.Progress.{lock_free}
use Rattle.ls_progress.specs.Judged.{GoesByLocksIn}
use Rattle.ls_progress.specs.Livelocks.{IsLivelockIn}
use Rattle.ls_progress.proofs.KindLemmas.{ok_some}
use Rattle.ls_progress.proofs.livelocks.livelock_by.Goals as goal

pub returns-in-Some-2 : goal.returns-in-Some-2
returns-in-Some-2 c =
    let l = c.args.labelled in
    ok_some c.shown_by_locks.result (GoesByLocksIn l (lock_free l.thread) c.in-Some.call) (IsLivelockIn l.scope)
    (λ lasso goes. record { thread = l.thread; call = c.in-Some.call; short = goes.0; round = goes.1 })
    c.shown_by_locks.ensures
