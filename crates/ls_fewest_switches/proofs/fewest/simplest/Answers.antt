-- Why `simplest` in src/fewest.rt keeps its clauses `history`, `few` and `fewest` and what `least_below` requires.

use Rattle.std.proofs.Common.{◌≡◌, ◌+◌, ◌≤◌, true, Some, sym, ap, ◌∙◌, subst, arith}
use Rattle.std.specs.List.{fold}
use Rattle.ls_checked.specs.CheckedTree.{File}
use Rattle.ls_checked.specs.CheckedProgram.{Program}
use Rattle.ls_checked.specs.Plain.{plain_file}
use Rattle.ls_checked.specs.PlainProgram.{plain_program}
use Rattle.ls_meaning.specs.Runs.{source_history}
use Rattle.ls_fewest_switches.specs.Along.{is_whole, left_after}
use Rattle.ls_fewest_switches.specs.Levels.{IsBelow}
use Rattle.ls_graph.specs.declared.costs.Counted.TheVariants.{Changes}
use Rattle.ls_graph.specs.Costs.{changes}
use Rattle.ls_fewest_switches.specs.Switches.{switches}
use Rattle.ls_fewest_switches.proofs.Left.{never_whole, whole_is}
use Rattle.ls_fewest_switches.proofs.Told.{fewest_of, no_more_switches}
use Rattle.ls_fewest_switches.proofs.fewest.simplest.Goals as goal

pub least_below-requires-clause-lost : goal.least_below-requires-clause-lost
least_below-requires-clause-lost c = never_whole

pub returns-in-Steps-clause-history : goal.returns-in-Steps-clause-history
returns-in-Steps-clause-history c =
    let file : File = plain_file c.args.file.now in
    let program : Program = plain_program c.args.program.now in
    let h = c.as_slice.result.now in
    let below = subst (λ l. IsBelow (Some h) left_after is_whole c.args.target.stuck file program Changes
    (c.changes-most.result + 1) l) c.in-Steps.is c.in_ok-least.ensures in
    ap (source_history file program) c.of.ensures
    ∙ whole_is h (source_history file program c.in-Steps.least.items) below.0.sought
    ∙ c.as_slice.ensures.value ∙ c.in_ok-history.ensures ∙ ap (source_history file program) c.steps-steps.ensures

pub returns-in-Steps-clause-few : goal.returns-in-Steps-clause-few
returns-in-Steps-clause-few c =
    let file : File = plain_file c.args.file.now in
    let program : Program = plain_program c.args.program.now in
    let h = c.as_slice.result.now in
    let below = subst (λ l. IsBelow (Some h) left_after is_whole c.args.target.stuck file program Changes
    (c.changes-most.result + 1) l) c.in-Steps.is c.in_ok-least.ensures in
    let few = below.2 in
    let most = c.changes-most.ensures.is ∙ ap (changes 0) c.steps-steps.ensures in
    subst (λ s. switches s ≤ switches c.args.found.now) (sym c.of.ensures)
    (no_more_switches c.in-Steps.least.items c.args.found.now (omega (arith, few, most)))

pub returns-in-Steps-clause-fewest : goal.returns-in-Steps-clause-fewest
returns-in-Steps-clause-fewest c = λ is s same ends.
    let file : File = plain_file c.args.file.now in
    let program : Program = plain_program c.args.program.now in
    let h = c.as_slice.result.now in
    let least = c.in-Steps.least.items in
    let below = subst (λ l. IsBelow (Some h) left_after is_whole c.args.target.stuck file program Changes
    (c.changes-most.result + 1) l) c.in-Steps.is c.in_ok-least.ensures in
    let sought : is_whole (fold left_after (Some h) (source_history file program s)) ≡ true =
    ap (λ es. is_whole (fold left_after (Some h) es)) (same ∙ ap (source_history file program) c.of.ensures)
    ∙ below.0.sought in
    subst (λ k. switches k ≤ switches s) (sym c.of.ensures)
    (fewest_of (Some h) left_after is_whole c.args.target.stuck file program least below.1 s sought ends)
