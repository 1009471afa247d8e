-- Why `race_at_end` in src/finding.rt keeps its contract.
use Rattle.std.proofs.Common.{◌∙◌, ap, length, map, subst}
use Rattle.std.specs.Prelude.{IfSome}
use Rattle.ls_checked.specs.CheckedTree.{File}
use Rattle.ls_checked.specs.CheckedProgram.{Program}
use Rattle.ls_checked.specs.Plain.{plain_file}
use Rattle.ls_checked.specs.PlainProgram.{plain_program}
use Rattle.ls_graph.specs.Costs.{costs}
use Rattle.ls_graph.specs.Walks.{IsLeast}
use Rattle.ls_graph.specs.declared.costs.Counted.TheVariants.{Changes}
use Rattle.ls_races.specs.Extents.{MeetsLate}
use Rattle.ls_races.specs.Sought.{IsPlayed}
use Rattle.ls_races.specs.Volatile.{volatile_by}
use Rattle.ls_races.proofs.Sights.{known_at, late_at}
use Rattle.ls_races.proofs.finding.race_at_end.Goals as goal

pub returns-clause-race : goal.returns-clause-race
returns-clause-race c =
    let file : File = plain_file c.args.scope.file.now in
    let program : Program = plain_program c.args.scope.program.now in
    let closing = c.args.closing.now in
    let least = IsLeast Changes closing.graph.edges.items (length closing.graph.found.nodes.items)
    closing.looked.items in
    let steps = c.in-Some.played.steps.items in
    known_at (volatile_by (map (λ v. v.items) c.args.scope.classes.now)) c.args.told.now file program least
    c.race_after.result (costs Changes 0 steps) (IsPlayed file program c.in-Some.played) c.is_least-fewest.result
    c.race_after.ensures.fewest c.race_after.ensures.race
    (subst (λ o. IfSome o (IsPlayed file program)) c.in-Some.is c.in_ok-played.ensures)
    (λ known. subst least (c.costs-spent.ensures ∙ ap (costs Changes 0) c.deref-2.ensures.value)
    (c.is_least-fewest.ensures known))

pub returns-clause-late : goal.returns-clause-late
returns-clause-late c =
    let file : File = plain_file c.args.scope.file.now in
    let program : Program = plain_program c.args.scope.program.now in
    late_at (MeetsLate (volatile_by (map (λ v. v.items) c.args.scope.classes.now)) c.args.told.now file program)
    (IsPlayed file program c.in-Some.played) c.race_after.result c.race_after.ensures.late
    (subst (λ o. IfSome o (IsPlayed file program)) c.in-Some.is c.in_ok-played.ensures)
