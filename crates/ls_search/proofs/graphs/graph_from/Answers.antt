-- Why `graph_from` in src/graphs.rt keeps its contract.
use Rattle.std.proofs.Common.{◌⊎◌, ◌≤◌, ◌<◌, ℕ, List, None, length, map, subst, arith}
use Rattle.ls_checked.specs.CheckedTree.{File}
use Rattle.ls_checked.specs.CheckedProgram.{Program}
use Rattle.ls_checked.specs.Plain.{plain_file}
use Rattle.ls_checked.specs.PlainProgram.{plain_program}
use Rattle.ls_graph.specs.Graph.{IsGraph}
use Rattle.ls_graph.specs.Weights.{total}
use Rattle.ls_search_laws.specs.Noticing.{Noticed}
use Rattle.ls_transitions.specs.Seen.{table_of}
use Rattle.ls_search.specs.declared.space.Kept.{Kept}
use Rattle.ls_search.specs.declared.space.Wanted.TheVariants.{Nothing}
use Rattle.ls_search.specs.Answers.{root_of}
use Rattle.ls_search.specs.Graphs.{states_at}
use Rattle.ls_search.specs.Space.{GoesTo, IsEnd, Rests}
use Rattle.ls_search.proofs.graphs.graph_from.Goals as goal

pub returns-clause-graph : goal.returns-clause-graph
returns-clause-graph g c =
    let o = c.args.ground.now.observer.now in
    let first = g.O.Observer.first o in
    let next = g.O.Observer.next o in
    let stands = g.O.Observer.stands o in
    let file : File = plain_file c.args.ground.now.file.now in
    let program : Program = plain_program c.args.ground.now.program.now in
    let closing = c.in_ok-closing.closing in
    let states : List (Noticed g.O.Observer.State) =
    states_at first (table_of c.close.new.tables.transitions) (map stands c.close.new.tables.pool.values.items)
    closing.graph.found.nodes.items in
    let Is : ℕ → Noticed g.O.Observer.State → Type 0 = λ n r.
    IsGraph (Rests first next file program stands None) (GoesTo first next file program)
    (IsEnd stands (g.O.Observer.bad o) Nothing file) n r states closing.graph.edges.items closing.looked.items in
    let root : Noticed g.O.Observer.State = root_of stands (table_of c.args.transitions) c.args.root in
    subst (λ n. Is n root) c.plan_of.ensures.actors
    (subst (Is c.plan_of.result.actors) c.in_ok-beginning.ensures.stands c.in_ok-closing.ensures.graph)

pub returns-clause-few : goal.returns-clause-few
returns-clause-few g c = λ room.
    let bounded = c.in_ok-closing.ensures.bounded (omega (arith, room, c.plan_of.ensures.limit)) in
    omega (arith, bounded.few, c.plan_of.ensures.limit)

pub returns-clause-full : goal.returns-clause-full
returns-clause-full g c = λ full.
    let nodes : List Kept = c.in_ok-closing.closing.graph.found.nodes.items in
    let Full : ℕ → ℕ → Type 0 = λ limit weight.
    (limit ≤ length nodes) ⊎ (weight < total (λ (n : Kept). n.weight) nodes) in
    subst (Full c.args.ground.now.limit) c.plan_of.ensures.weight
    (subst (λ k. Full k c.plan_of.result.bounds.weight) c.plan_of.ensures.limit (c.in_ok-closing.ensures.full full))
