-- Why `SourceRun::next_of_thread` in src/run.rt keeps its contract.

use Rattle.std.proofs.Common.{◌≡◌}
use Rattle.ls_meaning.specs.Runs.{answers_of}
use Rattle.ls_meaning.specs.Threads.{next}
use Rattle.ls_source.specs.Progress.{Progress}
use Rattle.ls_source.specs.SeenThread.{plain_next}
use Rattle.ls_source.specs.Shown.{progress_of}
use Rattle.ls_source.specs.Stands.{StandsFor}
use Rattle.ls_source.proofs.StoresAndEvents.{ok_follows}
use Rattle.ls_source.proofs.Standing.{of_run}
use Rattle.ls_source.proofs.run.SourceRun.next_of_thread.Goals as goal

pub returns : goal.returns
returns c =
    let r = c.args.self.now in
    ok_follows c.next_of_thread.result
    (λ b. (p : Progress) → StandsFor r.playing p →
    plain_next b ≡ next p.file p.program c.args.thread (answers_of p.state c.args.thread))
    (λ b. plain_next b ≡ next (progress_of r).file (progress_of r).program c.args.thread
    (answers_of (progress_of r).state c.args.thread))
    (λ b h. h (progress_of r) (of_run r)) c.next_of_thread.ensures.next
