-- Why `simplest_bad` in src/fewest.rt keeps its clauses `few` and `fewest`.

use Rattle.std.proofs.Common.{◌≤◌, sym, ap, ◌∙◌, subst, arith}
use Rattle.ls_checked.specs.CheckedTree.{File}
use Rattle.ls_checked.specs.CheckedProgram.{Program}
use Rattle.ls_checked.specs.Plain.{plain_file}
use Rattle.ls_checked.specs.PlainProgram.{plain_program}
use Rattle.ls_fewest_switches.specs.Levels.{IsBelow}
use Rattle.ls_graph.specs.Costs.{changes}
use Rattle.ls_fewest_switches.specs.Switches.{HasFewestOf, IsSought, switches}
use Rattle.ls_graph.specs.declared.costs.Counted.TheVariants.{Changes}
use Rattle.ls_fewest_switches.proofs.Told.{fewest_of, no_more_switches}
use Rattle.ls_fewest_switches.proofs.fewest.simplest_bad.Goals as goal

pub returns-in-Steps-clause-few : goal.returns-in-Steps-clause-few
returns-in-Steps-clause-few g c =
    let file : File = plain_file c.args.file.now in
    let program : Program = plain_program c.args.program.now in
    let first = g.O.Observer.first c.args.observer.now in
    let next = g.O.Observer.next c.args.observer.now in
    let is_bad = g.O.Observer.bad c.args.observer.now in
    let below = subst (λ l. IsBelow first next is_bad c.args.target.stuck file program Changes c.changes-most.result l)
    c.in-Steps.is c.in_ok-least.ensures in
    let few = below.2 in
    let most = c.changes-most.ensures.is ∙ ap (changes 0) c.steps.ensures in
    subst (λ s. switches s ≤ switches c.args.found.now) (sym c.of.ensures)
    (no_more_switches c.in-Steps.least.items c.args.found.now (omega (arith, few, most)))

pub returns-in-Steps-clause-fewest : goal.returns-in-Steps-clause-fewest
returns-in-Steps-clause-fewest g c = λ is.
    let file : File = plain_file c.args.file.now in
    let program : Program = plain_program c.args.program.now in
    let first = g.O.Observer.first c.args.observer.now in
    let next = g.O.Observer.next c.args.observer.now in
    let is_bad = g.O.Observer.bad c.args.observer.now in
    let below = subst (λ l. IsBelow first next is_bad c.args.target.stuck file program Changes c.changes-most.result l)
    c.in-Steps.is c.in_ok-least.ensures in
    subst (HasFewestOf (IsSought first next is_bad) c.args.target.stuck file program) (sym c.of.ensures)
    (fewest_of first next is_bad c.args.target.stuck file program c.in-Steps.least.items below.1)
