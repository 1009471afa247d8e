-- Walks along edges within a call, and lassos.
use Rattle.std.specs.Prelude.{◌≡◌, ◌≤◌, ◌<◌, ◌+◌, ◌⊎◌, ℕ, Bool, true, List, [], ◌∷◌, Some, Option, Contains}
use Rattle.std.specs.Prelude.{if◌then◌else◌, slice_get}
use Rattle.ls_graph.specs.Found.{HasNoneBy}
use Rattle.ls_graph.specs.Walks.{Walks, actors_of}
use Rattle.ls_graph.specs.declared.closing.Edge.{Edge}
use Rattle.ls_progress_laws.specs.Progress.{Kind}
use Rattle.ls_progress.specs.Kinds.{is_kept, is_own}
use Rattle.ls_progress.specs.Labels.{label_at}
use Rattle.ls_progress.specs.Sorts.{sort_at}
use Rattle.ls_progress.specs.declared.lassos.Lasso.{Lasso}
use Rattle.ls_progress.specs.declared.sorts.Sort.TheVariants as sorts

-- with none of the steps a call begins or ends that mustn't
abbrev pub AreKept : Kind → List Edge → Type 0
AreKept kind [] = Unit {0}
AreKept kind (e ∷ path) = (is_kept kind e ≡ true) × AreKept kind path

-- how many are the thread's own
abbrev pub own_in : ℕ → List Edge → ℕ
own_in t [] = 0
own_in t (e ∷ path) = (if is_own t e then 1 else 0) + own_in t path

-- The path leads from the one node to the other, with one of the thread's own steps if that is told. With none of its
-- steps a call begins or ends that mustn't.
pub record IsAlong (kind : Kind) (edges : List Edge) (from to : ℕ) (path : List Edge) (own : Bool) : Type 0 where
  pub walks : Walks edges from path to
  pub kept : AreKept kind path
  pub some : own ≡ true → 1 ≤ own_in kind.thread path

-- the way leads to a node where the call is pending, and the cycle is a path from there to there
pub record IsLed (kind : Kind) (edges : List Edge) (labels : List (Option ℕ)) (call at : ℕ) (cycle : List Edge)
    (l : Lasso) : Type 0 where
  pub path : List Edge
  pub walks : Walks edges 0 path at
  pub way_is : l.way.items ≡ actors_of path
  pub label : label_at labels at ≡ Some call
  pub along : IsAlong kind edges at at cycle true
  pub cycle_is : l.cycle.items ≡ actors_of cycle

-- each thread but the setup takes one of these steps, unless no edge of it leads from the node
abbrev pub AllGo : List Edge → ℕ → ℕ → List ℕ → Type 0
AllGo edges at threads cycle = (u : ℕ) → 1 ≤ u → u < threads → Contains cycle u ⊎ HasNoneBy edges at u

-- ---- locks that pass over no thread

-- the edge's step doesn't wait
abbrev pub Acts : Edge → Type 0
Acts e = sort_at e.mark ≡ sorts.Waits → ⊥

-- one of the edges is the thread's, and its step doesn't wait
abbrev pub HasActing : List Edge → ℕ → Type 0
HasActing path u = (i : ℕ) × (e : Edge) × (slice_get path i ≡ Some e) × (e.actor ≡ u) × Acts e

-- each edge that leads from where the path goes by is of a thread that acts in the path, unless its step waits
pub record PassesNone (edges : List Edge) (looked : List Bool) (path : List Edge) : Type 0 where
  pub known : (i : ℕ) (e : Edge) → slice_get path i ≡ Some e → slice_get looked e.from ≡ Some true
  pub acts : (i : ℕ) (e : Edge) → slice_get path i ≡ Some e → (j : ℕ) (f : Edge) → slice_get edges j ≡ Some f →
      f.from ≡ e.from →
      Acts f →
      HasActing path f.actor
