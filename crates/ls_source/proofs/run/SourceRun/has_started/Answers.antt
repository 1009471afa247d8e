-- Why `SourceRun::has_started` in src/run.rt keeps its contract.

use Rattle.std.proofs.Common.{◌≡◌}
use Rattle.ls_meaning.specs.Runs.{has_started}
use Rattle.ls_source.specs.Progress.{Progress}
use Rattle.ls_source.specs.Shown.{progress_of}
use Rattle.ls_source.specs.Stands.{StandsFor}
use Rattle.ls_source.proofs.StoresAndEvents.{ok_follows}
use Rattle.ls_source.proofs.Standing.{of_run}
use Rattle.ls_source.proofs.run.SourceRun.has_started.Goals as goal

pub returns : goal.returns
returns c =
    let r = c.args.self.now in
    ok_follows c.has_started.result
    (λ b. (p : Progress) → StandsFor r.playing p → b ≡ has_started p.file p.program p.state c.args.thread)
    (λ b. b ≡ has_started (progress_of r).file (progress_of r).program (progress_of r).state c.args.thread)
    (λ b h. h (progress_of r) (of_run r)) c.has_started.ensures
