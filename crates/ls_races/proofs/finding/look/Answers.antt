-- Why `look` in src/finding.rt keeps its contract.
use Rattle.std.proofs.Common.{◌≡◌, ◌⊎◌, ℕ, arith, length, map, sym, subst}
use Rattle.ls_checked.specs.Plain.{plain_file}
use Rattle.ls_checked.specs.PlainProgram.{plain_program}
use Rattle.ls_graph.specs.Graph.{IsWhole}
use Rattle.ls_graph.specs.Walks.{IsLeast}
use Rattle.ls_graph.specs.declared.closing.Halt.TheVariants.{Full}
use Rattle.ls_graph.specs.declared.costs.Counted.TheVariants.{Changes}
use Rattle.ls_search.specs.Verdicts.{AreAll, AreReached, IsCut}
use Rattle.ls_races.specs.Extents.{MeetsLate}
use Rattle.ls_races.specs.Races.{AllAreOn, HaveAtLeast}
use Rattle.ls_races.specs.Sought.{IsSight}
use Rattle.ls_races.specs.Volatile.{volatile_by}
use Rattle.ls_races.proofs.Covering.{races_cost, races_none}
use Rattle.ls_races.proofs.Extents.{all_states}
use Rattle.ls_races.proofs.Sights.{cut_map, sight_map}
use Rattle.ls_races.proofs.finding.look.Goals as goal

pub returns-clause-sight : goal.returns-clause-sight
returns-clause-sight c =
    let volatile = volatile_by (map (λ v. v.items) c.args.scope.classes.now) in
    let told = c.args.told.now in
    let file = plain_file c.args.scope.file.now in
    let program = plain_program c.args.scope.program.now in
    let closing = c.in_ok-closing.closing in
    let edges = closing.graph.edges.items in
    let count = length closing.graph.found.nodes.items in
    let looked = closing.looked.items in
    let limit = c.args.scope.limit in
    let is = c.in_ok-closing.ensures in
    let many : count ≡ c.len.result = omega (arith, c.len.ensures) in
    subst (λ (n : ℕ). IsSight volatile told file program limit n c.in_ok-sight.sight) many
    (sight_map volatile told file program (IsLeast Changes edges count looked) (HaveAtLeast volatile told file program)
    (races_cost volatile told file program edges count looked is.graph) (IsWhole count looked)
    (AllAreOn volatile told file program × AreAll file program 0 count)
    (λ whole. (
      races_none volatile told file program edges count looked is.graph whole,
      all_states volatile told file program edges count looked is.graph whole,
    ))
    ((closing.halt ≡ Full) ⊎ MeetsLate volatile told file program)
    (IsCut file program limit 0 count ⊎ MeetsLate volatile told file program)
    (cut_map (closing.halt ≡ Full) (MeetsLate volatile told file program) (IsCut file program limit 0 count)
    (is.full c.requires.room))
    c.in_ok-sight.sight c.in_ok-sight.ensures)

pub returns-clause-reached : goal.returns-clause-reached
returns-clause-reached c =
    let file = plain_file c.args.scope.file.now in
    let program = plain_program c.args.scope.program.now in
    let many : length c.in_ok-closing.closing.graph.found.nodes.items ≡ c.len.result = omega (arith, c.len.ensures) in
    subst (AreReached file program 0) many c.in_ok-closing.ensures.reached

pub returns-clause-few : goal.returns-clause-few
returns-clause-few c =
    let few = c.in_ok-closing.ensures.few c.requires.room in omega (arith, few, c.len.ensures)
