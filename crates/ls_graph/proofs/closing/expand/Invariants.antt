-- What the loop `actor` of `expand` in src/closing.rt keeps.
use Rattle.std.proofs.Common.{◌≡◌, ◌<◌, ◌≤◌, ℕ, Some, length}
use Rattle.std.specs.Prelude.{slice_get}
use Rattle.ls_graph.specs.Found.{IsGrown}
use Rattle.ls_graph.specs.Graph.{IsBounded, Goes, IsTold, states_in}
use Rattle.ls_graph.proofs.Founding.{LeavesBefore}
use Rattle.ls_graph.proofs.closing.expand.Given as goal

abbrev pub invariant-loop-actor : goal.invariant-loop-actor
invariant-loop-actor g l = record {
  goes : Goes (g.P.Space.IsKnown l.space) (g.P.Space.stands l.space) (g.P.Space.Leads l.space) g.P.Space.weighs
      l.fn.tables l.fn.graph l.tables l.graph;
  within : l.at < length l.graph.found.nodes.items;
  told : (s : g.P.Space.State) (u : ℕ) →
      slice_get (states_in (g.P.Space.stands l.space) l.fn.tables l.fn.graph) l.at ≡ Some s → u < l.actor →
      IsTold (g.P.Space.Rests l.space) (g.P.Space.Ends l.space) l.graph.edges.items l.at s u;
  bounded : IsBounded g.P.Space.weighs l.plan.bounds l.fn.graph.found →
      IsBounded g.P.Space.weighs l.plan.bounds l.graph.found;
  grown : IsGrown l.graph;
  before : LeavesBefore l.fn.graph.edges.items l.graph.edges.items l.at l.actor;
}
