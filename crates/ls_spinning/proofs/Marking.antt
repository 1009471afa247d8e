-- Marks of states from which an event can come.
use Rattle.std.proofs.Common.{◌≡◌, ◌⊎◌, inl, inr, ℕ, Bool, true, List, [], ◌∷◌, Some, sym}
use Rattle.std.specs.Prelude.{IfNone, None, Option, slice_get}
use Rattle.ls_graph.specs.declared.closing.Edge.{Edge}
use Rattle.ls_spinning.specs.Heard.{AreHeard, IsHeard}

module _ (loud : List Bool) (edges : List Edge) where
  -- those at which an event comes
  pub heard_loud : AreHeard loud edges loud
  heard_loud at e = ([], e)

  -- one more, from which an edge leads to one that is marked
  pub heard_more : (marks marks' : List Bool) (i : ℕ) (e : Edge) → slice_get edges i ≡ Some e →
      ((at : ℕ) → slice_get marks' at ≡ Some true →
      (slice_get marks at ≡ Some true) ⊎ ((at ≡ e.from) × (slice_get marks e.to ≡ Some true))) →
      AreHeard loud edges marks →
      AreHeard loud edges marks'
  heard_more marks marks' i e here only h at there = by_place (only at there)
    where
      by_place : (slice_get marks at ≡ Some true) ⊎ ((at ≡ e.from) × (slice_get marks e.to ≡ Some true)) →
          IsHeard loud edges at
      by_place (inl old) = h at old
      by_place (inr (same, marked)) = let to = h e.to marked in (i ∷ to.0, (e, here, sym same, to.1))

pub none_map : {A : Type 0} (P Q : Type 0) (o : Option A) → (P → Q) → IfNone o P → IfNone o Q
none_map P Q None f h = f h
none_map P Q (Some x) f h = tt
