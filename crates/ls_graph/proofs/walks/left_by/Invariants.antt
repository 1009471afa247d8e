-- What the loop `edge` of `left_by` in src/walks.rt keeps.
use Rattle.ls_graph.specs.Found.{HaveAny}
use Rattle.ls_graph.proofs.walks.left_by.Given as goal

abbrev pub invariant-loop-edge : goal.invariant-loop-edge
invariant-loop-edge g l = HaveAny l.graph.edges.items l.marks.items
