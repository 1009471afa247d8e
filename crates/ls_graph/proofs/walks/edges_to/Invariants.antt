-- What the loop `edge` of `edges_to` in src/walks.rt keeps, and why the loop ends.
use Rattle.std.proofs.Common.{◌<◌, length, reverse}
use Rattle.ls_graph.specs.Walks.{Walks}
use Rattle.ls_graph.proofs.walks.edges_to.Given as goal

abbrev pub invariant-loop-edge : goal.invariant-loop-edge
invariant-loop-edge g l = record {
  within : l.place < length l.graph.found.nodes.items;
  walks : Walks l.graph.edges.items l.place (reverse l.edges.items) l.at;
}

abbrev pub decreases-loop-edge : goal.decreases-loop-edge
decreases-loop-edge g l = l.place
