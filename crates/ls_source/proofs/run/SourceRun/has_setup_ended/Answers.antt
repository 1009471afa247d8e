-- Why `SourceRun::has_setup_ended` in src/run.rt keeps its contract.

use Rattle.std.proofs.Common.{◌≡◌}
use Rattle.ls_meaning.specs.Runs.{answers_of, has_ended}
use Rattle.ls_meaning.specs.Threads.{next}
use Rattle.ls_source.specs.Progress.{Progress}
use Rattle.ls_source.specs.Shown.{progress_of}
use Rattle.ls_source.specs.Stands.{StandsFor}
use Rattle.ls_source.proofs.StoresAndEvents.{ok_follows}
use Rattle.ls_source.proofs.Standing.{of_run}
use Rattle.ls_source.proofs.run.SourceRun.has_setup_ended.Goals as goal

pub returns : goal.returns
returns c =
    let r = c.args.self.now in
    ok_follows c.has_setup_ended.result
    (λ b. (p : Progress) → StandsFor r.playing p → b ≡ has_ended (next p.file p.program 0 (answers_of p.state 0)))
    (λ b. b ≡ has_ended (next (progress_of r).file (progress_of r).program 0 (answers_of (progress_of r).state 0)))
    (λ b h. h (progress_of r) (of_run r)) c.has_setup_ended.ensures
