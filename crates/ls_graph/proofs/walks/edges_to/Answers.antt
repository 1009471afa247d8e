-- Why `edges_to` in src/walks.rt keeps its contract and its loop.
use Rattle.std.proofs.Common.{reverse, sym, subst, arith}
use Rattle.ls_graph.specs.Walks.{Walks}
use Rattle.ls_graph.proofs.Walking.{walks_more}
use Rattle.ls_graph.proofs.walks.edges_to.Goals as goal

pub loop-edge-preserved : goal.loop-edge-preserved
loop-edge-preserved g c = record {
  within = omega (arith, c.in-Some.ensures.earlier, c.loop-edge.invariant.within);
  walks =
      walks_more c.args.graph.now.edges.items c.args.at c.loop-edge.place c.in-Some.edge c.loop-edge.edges.items
      c.push.new.self.items c.in-Some.ensures.one c.in-Some.ensures.to c.loop-edge.invariant.walks
      c.in_ok-push.ensures.items;
}

pub returns : goal.returns
returns g c =
    let edges = c.args.graph.now.edges.items in
    subst (λ p. Walks edges 0 p c.args.at) (sym c.reverse.ensures.items)
    (subst (λ k. Walks edges k (reverse c.loop-edge.edges.items) c.args.at) c.in_default.ensures.none
    c.loop-edge.invariant.walks)
