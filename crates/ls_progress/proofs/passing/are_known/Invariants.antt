-- What the loop `edge` of `are_known` in src/passing.rt keeps.
use Rattle.std.proofs.Common.{◌≡◌, ◌<◌, ℕ, Some, true}
use Rattle.std.specs.Prelude.{slice_get}
use Rattle.ls_graph.specs.declared.closing.Edge.{Edge}
use Rattle.ls_progress.proofs.passing.are_known.Given as goal

abbrev pub invariant-loop-edge : goal.invariant-loop-edge
invariant-loop-edge l = (i : ℕ) (e : Edge) → i < l.edge-index → slice_get l.path i ≡ Some e →
    slice_get l.looked e.from ≡ Some true
