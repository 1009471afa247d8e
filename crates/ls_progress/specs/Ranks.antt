-- Ranks of states that sink with each step of a call.
use Rattle.std.specs.Prelude.{◌≡◌, ◌≤◌, ◌<◌, ℕ, true, false, List, Some, slice_get, slice_index_or, Option}
use Rattle.ls_graph.specs.declared.closing.Edge.{Edge}
use Rattle.ls_progress_laws.specs.Progress.{Kind}
use Rattle.ls_progress.specs.Kinds.{is_kept, is_own}
use Rattle.ls_progress.specs.Labels.{label_at}
use Rattle.ls_progress.specs.Sorts.{sort_at}
use Rattle.ls_progress.specs.declared.sorts.Sort.TheVariants as sorts

abbrev pub rank_at : List ℕ → ℕ → ℕ
rank_at ranks at = slice_index_or ranks at 0

-- the rank sinks with an edge of the thread, which doesn't wait, and rises with none
pub record Sinks (t : ℕ) (ranks : List ℕ) (e : Edge) : Type 0 where
  pub own : is_own t e ≡ true → rank_at ranks e.to < rank_at ranks e.from
  pub acts : is_own t e ≡ true → sort_at e.mark ≡ sorts.Waits → ⊥
  pub other : is_own t e ≡ false → rank_at ranks e.to ≤ rank_at ranks e.from

-- so it is with each edge from where the call is pending, of those with which no call begins or ends that mustn't
abbrev pub AreRanks : Kind → List Edge → List (Option ℕ) → ℕ → List ℕ → Type 0
AreRanks kind edges labels call ranks = (i : ℕ) (e : Edge) → slice_get edges i ≡ Some e →
    label_at labels e.from ≡ Some call →
    is_kept kind e ≡ true →
    Sinks kind.thread ranks e

-- where the call is pending the rank is at most this
abbrev pub IsHighest : List (Option ℕ) → ℕ → List ℕ → ℕ → Type 0
IsHighest labels call ranks most = (at : ℕ) → label_at labels at ≡ Some call → rank_at ranks at ≤ most
