-- Why `goes_on` in src/shortest.rt keeps its contract.

use Rattle.std.proofs.Common.{◌≡◌, ◌++◌, ◌∷◌, ℕ, [], Bool, IfSome, subst, true}
use Rattle.ls_checked.specs.Plain.{plain_file}
use Rattle.ls_checked.specs.PlainProgram.{plain_program}
use Rattle.ls_search.specs.Runs.{progress_at}
use Rattle.ls_source.specs.Shown.{progress_of}
use Rattle.ls_source.specs.declared.run.SourceRun.{SourceRun}
use Rattle.ls_explore.specs.Rows.{ActAll}
use Rattle.ls_explore_reports.specs.Shortest.{ActsNext}
use Rattle.ls_explore_reports.proofs.CutRows.{if_ok}
use Rattle.ls_explore_reports.proofs.GoingOn.{goes_after}
use Rattle.ls_explore_reports.proofs.shortest.goes_on.Goals as goal

pub returns : goal.returns
returns c =
    let file = plain_file c.args.file.now in
    let program = plain_program c.args.program.now in
    let steps = c.args.steps.now in
    let run = subst (λ o. IfSome o (λ (r : SourceRun). progress_of r ≡ progress_at file program steps)) c.in-Some.is
    c.in_ok-run.ensures.run in
    let acts = subst (λ o. IfSome o (λ (r : SourceRun). ActAll file program steps)) c.in-Some.is
    c.in_ok-run.ensures.acts in
    if_ok c.some_acts.result (λ (b : Bool). b ≡ true → ActsNext (progress_of c.in-Some.run'))
    (λ (b : Bool). b ≡ true → (t : ℕ) × ActAll file program (steps ++ t ∷ []))
    (λ b next yes. goes_after file program steps (progress_of c.in-Some.run') run acts (next yes)) c.some_acts.ensures
