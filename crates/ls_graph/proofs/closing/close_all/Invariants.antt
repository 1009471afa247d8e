-- What the loop of `close_all` in src/closing.rt keeps.
use Rattle.std.proofs.Common.{◌≤◌, length}
use Rattle.ls_graph.specs.Found.{AreFromLooked, IsGrown}
use Rattle.ls_graph.specs.Graph.{IsBounded, AreLooked, Goes, states_in}
use Rattle.ls_graph.proofs.closing.close_all.Given as goal

abbrev pub invariant-loop : goal.invariant-loop
invariant-loop g l = record {
  goes : Goes (g.P.Space.IsKnown l.space) (g.P.Space.stands l.space) (g.P.Space.Leads l.space) g.P.Space.weighs
      l.fn.tables l.fn.closing.graph l.tables l.closing.graph;
  looked : AreLooked (g.P.Space.Rests l.space) (g.P.Space.Ends l.space)
      (states_in (g.P.Space.stands l.space) l.tables l.closing.graph)
      l.closing.graph.edges.items l.plan.actors l.closing.looked.items;
  bounded : IsBounded g.P.Space.weighs l.plan.bounds l.fn.closing.graph.found →
      IsBounded g.P.Space.weighs l.plan.bounds l.closing.graph.found;
  grown : IsGrown l.closing.graph;
  from : AreFromLooked l.closing.graph.edges.items l.closing.looked.items;
}
