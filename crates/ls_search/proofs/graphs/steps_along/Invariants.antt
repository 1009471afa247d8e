-- What the loop `edge` of `steps_along` in src/graphs.rt keeps.
use Rattle.std.proofs.Common.{◌≡◌, ◌++◌, drop}
use Rattle.ls_search.specs.Graphs.{steps_along}
use Rattle.ls_search.proofs.graphs.steps_along.Given as goal

abbrev pub invariant-loop-edge : goal.invariant-loop-edge
invariant-loop-edge l = steps_along l.path ≡ l.steps.items ++ steps_along (drop l.edge-index l.path)
