-- Why `found_by` in src/walks.rt keeps its contract, and reads within the lists.
use Rattle.std.proofs.Common.{length, ap, ◌∙◌, arith}
use Rattle.ls_graph.specs.Found.{IsFoundBy}
use Rattle.ls_graph.specs.declared.closing.Edge.{Edge}
use Rattle.ls_graph.proofs.Lists.{below}
use Rattle.ls_graph.proofs.Walking.{edge_here, edge_is, is_at}
use Rattle.ls_graph.proofs.walks.found_by.Goals as goal

pub index-requires : goal.index-requires
index-requires g c =
    let graph = c.args.graph.now in
    let place = c.index-place.result.now in
    let is : IsFoundBy graph.edges.items c.args.at c.index-place.result.now =
    is_at graph.edges.items (length graph.found.nodes.items) graph.by.items c.requires.found c.args.at
    (omega (arith, c.if-at-eq0.false)) c.requires.within place c.index-place.ensures in
    omega (arith, below graph.edges.items place is.edge is.here, graph.edges.ok.0)

pub returns-clause-one : goal.returns-clause-one
returns-clause-one g c =
    let graph = c.args.graph.now in
    let place = c.index-place.result.now in (
      place,
      edge_here graph.edges.items (length graph.found.nodes.items) graph.by.items c.requires.found c.args.at
          (omega (arith, c.if-at-eq0.false)) c.requires.within place c.index.result.now c.index-place.ensures
          c.index.ensures,
    )

pub returns-clause-to : goal.returns-clause-to
returns-clause-to g c =
    let graph = c.args.graph.now in
    let place = c.index-place.result.now in
    let is : IsFoundBy graph.edges.items c.args.at c.index-place.result.now =
    is_at graph.edges.items (length graph.found.nodes.items) graph.by.items c.requires.found c.args.at
    (omega (arith, c.if-at-eq0.false)) c.requires.within place c.index-place.ensures in
    ap (λ (e : Edge). e.to)
    (edge_is graph.edges.items (length graph.found.nodes.items) graph.by.items c.requires.found c.args.at
    (omega (arith, c.if-at-eq0.false)) c.requires.within place c.index.result.now c.index-place.ensures c.index.ensures)
    ∙ is.to_is

pub returns-clause-earlier : goal.returns-clause-earlier
returns-clause-earlier g c =
    let graph = c.args.graph.now in
    let place = c.index-place.result.now in
    let is : IsFoundBy graph.edges.items c.args.at c.index-place.result.now =
    is_at graph.edges.items (length graph.found.nodes.items) graph.by.items c.requires.found c.args.at
    (omega (arith, c.if-at-eq0.false)) c.requires.within place c.index-place.ensures in
    let same =
    ap (λ (e : Edge). e.from)
    (edge_is graph.edges.items (length graph.found.nodes.items) graph.by.items c.requires.found c.args.at
    (omega (arith, c.if-at-eq0.false)) c.requires.within place c.index.result.now c.index-place.ensures
    c.index.ensures) in
    omega (arith, same, is.earlier)
