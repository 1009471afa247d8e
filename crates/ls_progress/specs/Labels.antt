-- Which call of a thread is pending at each state.
use Rattle.std.specs.Prelude.{◌≡◌, ℕ, List, Option, None, Some, slice_get, slice_index_or, if◌then◌else◌}
use Rattle.ls_graph.specs.declared.closing.Edge.{Edge}
use Rattle.ls_progress.specs.Kinds.{is_own}
use Rattle.ls_progress.specs.Sorts.{call_after, sort_at}

abbrev pub label_at : List (Option ℕ) → ℕ → Option ℕ
label_at labels at = slice_index_or labels at None

-- the call of a thread that is pending after the step of an edge
abbrev pub label_after : ℕ → Edge → Option ℕ → Option ℕ
label_after t e now = if is_own t e then call_after (sort_at e.mark) now else now

-- none is pending at the first state, and each edge leads to a state with the call that is pending after it
pub record AreLabels (t : ℕ) (edges : List Edge) (labels : List (Option ℕ)) : Type 0 where
  pub first : label_at labels 0 ≡ None
  pub each : (i : ℕ) (e : Edge) → slice_get edges i ≡ Some e →
      label_at labels e.to ≡ label_after t e (label_at labels e.from)
