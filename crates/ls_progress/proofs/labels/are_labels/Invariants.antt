-- What the loop `edge` of `are_labels` in src/labels.rt keeps.
use Rattle.std.proofs.Common.{◌≡◌, ◌<◌, ℕ, Some}
use Rattle.std.specs.Prelude.{slice_get}
use Rattle.ls_graph.specs.declared.closing.Edge.{Edge}
use Rattle.ls_progress.specs.Labels.{label_after, label_at}
use Rattle.ls_progress.proofs.labels.are_labels.Given as goal

abbrev pub invariant-loop-edge : goal.invariant-loop-edge
invariant-loop-edge l = (i : ℕ) (e : Edge) → i < l.edge-index → slice_get l.edges i ≡ Some e →
    label_at l.labels e.to ≡ label_after l.thread e (label_at l.labels e.from)
