-- What the loop `edge` of `has_edge` in src/cycles.rt keeps.
use Rattle.std.proofs.Common.{◌≡◌, ◌<◌, ℕ, Some}
use Rattle.std.specs.Prelude.{slice_get}
use Rattle.ls_graph.specs.declared.closing.Edge.{Edge}
use Rattle.ls_progress.proofs.cycles.has_edge.Given as goal

abbrev pub invariant-loop-edge : goal.invariant-loop-edge
invariant-loop-edge l = (i : ℕ) (e : Edge) → i < l.edge-index → slice_get l.edges i ≡ Some e → e.from ≡ l.at →
    e.actor ≡ l.thread →
    ⊥
