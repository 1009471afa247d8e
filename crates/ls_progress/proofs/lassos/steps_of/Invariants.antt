-- What the loop `edge` of `steps_of` in src/lassos.rt keeps.
use Rattle.std.proofs.Common.{◌≡◌, take}
use Rattle.ls_graph.specs.Walks.{actors_of}
use Rattle.ls_progress.proofs.lassos.steps_of.Given as goal

abbrev pub invariant-loop-edge : goal.invariant-loop-edge
invariant-loop-edge l = l.steps.items ≡ actors_of (take l.edge-index l.path)
