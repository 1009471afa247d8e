-- What the loop `edge` of `passes_none` in src/passing.rt keeps.
use Rattle.std.proofs.Common.{◌≡◌, ◌<◌, ℕ, Some}
use Rattle.std.specs.Prelude.{slice_get}
use Rattle.ls_graph.specs.declared.closing.Edge.{Edge}
use Rattle.ls_progress.specs.Cycles.{Acts, HasActing}
use Rattle.ls_progress.proofs.passing.passes_none.Given as goal

abbrev pub invariant-loop-edge : goal.invariant-loop-edge
invariant-loop-edge l = (i : ℕ) (e : Edge) → slice_get l.path i ≡ Some e → (j : ℕ) (f : Edge) → j < l.edge-index →
    slice_get l.edges j ≡ Some f →
    f.from ≡ e.from →
    Acts f →
    HasActing l.path f.actor
