-- Why `is_such` in src/checking.rt keeps its contract.

use Rattle.std.proofs.Common.{◌≡◌, Bool, IfSome, sym, subst}
use Rattle.ls_checked.specs.CheckedTree.{File}
use Rattle.ls_checked.specs.CheckedProgram.{Program}
use Rattle.ls_checked.specs.Plain.{plain_file}
use Rattle.ls_checked.specs.PlainProgram.{plain_program}
use Rattle.ls_search.specs.Runs.{progress_at}
use Rattle.ls_source.specs.Shown.{progress_of}
use Rattle.ls_source.specs.declared.run.SourceRun.{SourceRun}
use Rattle.ls_fewest_switches.specs.Levels.{IsWaiting}
use Rattle.ls_fewest_switches.specs.Switches.{EndsSo}
use Rattle.ls_fewest_switches.proofs.Ending.{leaves_stuck}
use Rattle.ls_fewest_switches.proofs.checking.is_such.Goals as goal

pub returns-clause-ends : goal.returns-clause-ends
returns-clause-ends g c = λ waits.
    let file : File = plain_file c.args.file.now in
    let program : Program = plain_program c.args.program.now in
    let steps = c.args.steps.now in
    let at = subst (λ o. IfSome o (λ (r : SourceRun). progress_of r ≡ progress_at file program steps)) c.in-Some.is
    c.in_ok-run.ensures.run in
    subst (λ (b : Bool). EndsSo b file program steps) (sym c.if-not-stuck.false)
    (leaves_stuck file program steps (subst IsWaiting at (c.in_ok-waits.ensures waits)))
