-- Why `find_rows` in src/finding.rt keeps its clauses `found` and `refused`.

use Rattle.std.proofs.Common.{ℕ, Option, sym, subst}
use Rattle.std.specs.Prelude.{IfErr, IfOk}
use Rattle.ls_explore_commands.specs.Finding.{IsFound, IsRefused}
use Rattle.ls_explore_commands.proofs.FoundRows.{machine_found, machine_refused, source_found, source_refused}
use Rattle.ls_explore_commands.proofs.finding.find_rows.Goals as goal

pub returns-in-None-clause-found : goal.returns-in-None-clause-found
returns-in-None-clause-found g c =
    subst (λ (o : Option ℕ). IfOk c.explore_source.result (IsFound c.args.image.now o c.args.exploring.states))
    (sym c.in-None.is)
    (source_found c.args.image.now c.args.exploring.states c.explore_source.result c.explore_source.ensures.good
    c.explore_source.ensures.tells c.explore_source.ensures.roomy)

pub returns-in-None-clause-refused : goal.returns-in-None-clause-refused
returns-in-None-clause-refused g c =
    subst (λ (o : Option ℕ). IfErr c.explore_source.result (IsRefused c.args.image.now o c.args.exploring.states))
    (sym c.in-None.is)
    (source_refused c.args.image.now c.args.exploring.states c.explore_source.result c.explore_source.ensures.states
    c.explore_source.ensures.endless c.explore_source.ensures.only)

pub returns-in-Some-clause-found : goal.returns-in-Some-clause-found
returns-in-Some-clause-found g c =
    subst (λ (o : Option ℕ). IfOk c.explore_image.result (IsFound c.args.image.now o c.args.exploring.states))
    (sym c.in-Some.is)
    (machine_found c.args.image.now c.args.exploring.states c.in-Some.cells c.explore_image.result
    c.explore_image.ensures.good c.explore_image.ensures.told c.explore_image.ensures.found c.explore_image.ensures.few
    c.explore_image.ensures.cut c.explore_image.ensures.fits c.explore_image.ensures.full
    c.explore_image.ensures.narrow c.explore_image.ensures.seen c.explore_image.ensures.alone
    c.explore_image.ensures.tells c.explore_image.ensures.whole
    c.explore_image.ensures.apart c.explore_image.ensures.order)

pub returns-in-Some-clause-refused : goal.returns-in-Some-clause-refused
returns-in-Some-clause-refused g c =
    subst (λ (o : Option ℕ). IfErr c.explore_image.result (IsRefused c.args.image.now o c.args.exploring.states))
    (sym c.in-Some.is)
    (machine_refused c.args.image.now c.args.exploring.states c.in-Some.cells c.explore_image.result
    c.explore_image.ensures.cells c.explore_image.ensures.states c.explore_image.ensures.endless
    c.explore_image.ensures.setup)
