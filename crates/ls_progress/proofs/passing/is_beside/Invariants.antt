-- What the loop `step` of `is_beside` in src/passing.rt keeps.
use Rattle.std.proofs.Common.{◌≡◌, ◌<◌, ℕ, Some}
use Rattle.std.specs.Prelude.{slice_get}
use Rattle.ls_graph.specs.declared.closing.Edge.{Edge}
use Rattle.ls_progress.proofs.passing.is_beside.Given as goal

abbrev pub invariant-loop-step : goal.invariant-loop-step
invariant-loop-step l = (i : ℕ) (e : Edge) → i < l.step-index → slice_get l.path i ≡ Some e → l.edge.from ≡ e.from → ⊥
