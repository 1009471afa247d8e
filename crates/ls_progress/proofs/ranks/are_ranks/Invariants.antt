-- What the loop `edge` of `are_ranks` in src/ranks.rt keeps.
use Rattle.std.proofs.Common.{◌≡◌, ◌<◌, ℕ, Some, true}
use Rattle.std.specs.Prelude.{slice_get}
use Rattle.ls_graph.specs.declared.closing.Edge.{Edge}
use Rattle.ls_progress.specs.Kinds.{is_kept, kind_of}
use Rattle.ls_progress.specs.Labels.{label_at}
use Rattle.ls_progress.specs.Ranks.{Sinks}
use Rattle.ls_progress.proofs.ranks.are_ranks.Given as goal

abbrev pub invariant-loop-edge : goal.invariant-loop-edge
invariant-loop-edge l = (i : ℕ) (e : Edge) → i < l.edge-index → slice_get l.edges i ≡ Some e →
    label_at l.labels e.from ≡ Some l.wanted.call →
    is_kept (kind_of l.wanted.kind l.wanted.thread) e ≡ true →
    Sinks l.wanted.thread l.ranks e
