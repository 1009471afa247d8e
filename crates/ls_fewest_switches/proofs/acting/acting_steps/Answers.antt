-- Why `acting_steps` in src/acting.rt keeps its clauses but the first.

use Rattle.std.proofs.Common.{◌≤◌, ◌∙◌, List, ℕ, ap, length, sym, subst}
use Rattle.ls_checked.specs.CheckedTree.{File}
use Rattle.ls_checked.specs.CheckedProgram.{Program}
use Rattle.ls_checked.specs.Plain.{plain_file}
use Rattle.ls_checked.specs.PlainProgram.{plain_program}
use Rattle.ls_meaning.specs.Runs.{source_history, source_run}
use Rattle.ls_search_laws.specs.Stepping.{ActAll}
use Rattle.ls_fewest_switches.specs.Acting.{acting}
use Rattle.ls_fewest_switches.specs.Switches.{switches}
use Rattle.ls_fewest_switches.proofs.ActingSteps.{IsAsAll, as_all, few_switches, no_longer}
use Rattle.ls_fewest_switches.proofs.acting.acting_steps.Goals as goal

pub returns-clause-acts : goal.returns-clause-acts
returns-clause-acts c =
    let file : File = plain_file c.args.file.now in
    let program : Program = plain_program c.args.program.now in
    let all : IsAsAll file program c.args.steps.now (acting file program c.args.steps.now) =
    as_all file program c.args.steps.now in
    subst (ActAll file program) (sym c.in_ok-steps.ensures.steps) all.acts

pub returns-clause-run : goal.returns-clause-run
returns-clause-run c =
    let file : File = plain_file c.args.file.now in
    let program : Program = plain_program c.args.program.now in
    let all : IsAsAll file program c.args.steps.now (acting file program c.args.steps.now) =
    as_all file program c.args.steps.now in
    ap (source_run file program) c.in_ok-steps.ensures.steps ∙ all.state

pub returns-clause-history : goal.returns-clause-history
returns-clause-history c =
    let file : File = plain_file c.args.file.now in
    let program : Program = plain_program c.args.program.now in
    let all : IsAsAll file program c.args.steps.now (acting file program c.args.steps.now) =
    as_all file program c.args.steps.now in
    ap (source_history file program) c.in_ok-steps.ensures.steps ∙ all.history

pub returns-clause-few : goal.returns-clause-few
returns-clause-few c =
    let file : File = plain_file c.args.file.now in
    let program : Program = plain_program c.args.program.now in
    subst (λ (s : List ℕ). switches s ≤ switches c.args.steps.now) (sym c.in_ok-steps.ensures.steps)
    (few_switches file program c.args.steps.now)

pub returns-clause-short : goal.returns-clause-short
returns-clause-short c =
    let file : File = plain_file c.args.file.now in
    let program : Program = plain_program c.args.program.now in
    subst (λ (s : List ℕ). length s ≤ length c.args.steps.now) (sym c.in_ok-steps.ensures.steps)
    (no_longer file program c.args.steps.now)
