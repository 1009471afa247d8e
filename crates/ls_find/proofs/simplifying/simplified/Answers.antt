-- Why `simplified` in src/simplifying.rt keeps its clauses `bad` and `fewest`.

use Rattle.std.proofs.Common.{◌≡◌, true, sym, subst}
use Rattle.std.specs.Prelude.{IfOk}
use Rattle.ls_checked.specs.CheckedTree.{File}
use Rattle.ls_checked.specs.CheckedProgram.{Program}
use Rattle.ls_fewest_switches.specs.declared.fewest.SimpleRun.{SimpleRun}
use Rattle.ls_meaning.specs.Runs.{source_history}
use Rattle.ls_search.specs.Verdicts.{LeavesStuck}
use Rattle.ls_specification.specs.Specification.{given_of}
use Rattle.ls_translation.specs.Texts.{file_of, program_of}
use Rattle.ls_find.specs.Fewest.{IsFewest}
use Rattle.ls_find.specs.Verdicts.{IsBad}
use Rattle.ls_find.specs.declared.verdict.Reason.{Reason}
use Rattle.ls_find.specs.declared.verdict.Reason.TheVariants as reasons
use Rattle.ls_find.proofs.Simpler.{ok_both, still_waiting}
use Rattle.ls_find.proofs.simplifying.simplified.Goals as goal

pub returns-in-NotLinearizable-clause-bad : goal.returns-in-NotLinearizable-clause-bad
returns-in-NotLinearizable-clause-bad c =
    let given = given_of c.args.given in
    let file : File = file_of c.args.image.now in
    let program : Program = program_of c.args.image.now in
    subst (λ (k : Reason). IfOk c.unexplained_run.result (λ (r : SimpleRun).
    IsBad k given file program c.args.found.now →
    IsBad k given file program r.schedule)) (sym c.in-NotLinearizable.is) c.unexplained_run.ensures.bad

pub returns-in-Waits-clause-bad : goal.returns-in-Waits-clause-bad
returns-in-Waits-clause-bad c =
    let given = given_of c.args.given in
    let file : File = file_of c.args.image.now in
    let program : Program = program_of c.args.image.now in
    let found = c.args.found.now in
    subst (λ (k : Reason). IfOk c.simple_run.result (λ (r : SimpleRun). IsBad k given file program found →
    IsBad k given file program r.schedule)) (sym c.in-Waits.is)
    (ok_both (λ (r : SimpleRun). source_history file program r.schedule ≡ source_history file program found)
    (λ (r : SimpleRun). LeavesStuck file program found → LeavesStuck file program r.schedule)
    (λ (r : SimpleRun). IsBad reasons.Waits given file program found →
    IsBad reasons.Waits given file program r.schedule)
    c.simple_run.result c.simple_run.ensures.history c.simple_run.ensures.ends
    (λ r history ends. still_waiting file program found r.schedule history given c.pending_calls_wait.ensures.waits
    ends))

pub returns-in-Waits-clause-fewest : goal.returns-in-Waits-clause-fewest
returns-in-Waits-clause-fewest c =
    let given = given_of c.args.given in
    let file : File = file_of c.args.image.now in
    let program : Program = program_of c.args.image.now in
    subst (λ (k : Reason). IfOk c.simple_run.result (λ (r : SimpleRun). r.fewest ≡ true →
    IsFewest k given file program r.schedule)) (sym c.in-Waits.is) c.simple_run.ensures.fewest
