-- What the loop `edge` of `are_costs` in src/least.rt keeps.
use Rattle.std.proofs.Common.{◌≡◌, ◌<◌, ℕ, Some, map}
use Rattle.std.specs.Prelude.{slice_get}
use Rattle.ls_graph.specs.Walks.{IsCost}
use Rattle.ls_graph.specs.declared.closing.Edge.{Edge}
use Rattle.ls_graph.proofs.least.are_costs.Given as goal

abbrev pub invariant-loop-edge : goal.invariant-loop-edge
invariant-loop-edge l = (i : ℕ) (e : Edge) → i < l.edge-index → slice_get l.edges i ≡ Some e →
    IsCost l.counted (map (λ v. v.items) l.costs) l.actors l.least e
