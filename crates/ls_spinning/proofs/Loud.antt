-- Marks of states from which an edge leads whose step has an event, while tables grow.
use Rattle.std.proofs.Common.{◌≡◌, ◌⊎◌, inl, inr, ℕ, ◌+◌, ◌<◌, ◌≤◌, true, Bool, List, [], Some, length, sym, ap, ◌∙◌}
use Rattle.std.proofs.Common.{subst, arith}
use Rattle.std.specs.Prelude.{slice_get}
use Rattle.std.proofs.lemmas.Bool.{cases_lt}
use Rattle.ls_checked.specs.CheckedTree.{File}
use Rattle.ls_graph.specs.declared.closing.Edge.{Edge}
use Rattle.ls_graph.proofs.Lists.{map_from, map_there, some_is}
use Rattle.ls_graph.proofs.Lists as lists
use Rattle.ls_search_laws.specs.Configuration.{Configuration}
use Rattle.ls_transitions.specs.Tables.{Grows, Table}
use Rattle.ls_search.specs.declared.space.Kept.{Kept}
use Rattle.ls_search.proofs.Strides.{stays, there_still}
use Rattle.ls_spinning.specs.States.{AreLoud, AreThere, IsLoud, IsLoudAt, IsSilent, Place, place_of, places_of}

-- no edge yet
pub loud_none : (file : File) (states : List Place) (edges : List Edge) → AreLoud file states edges 0 []
loud_none file states edges = record {
  only = λ at marked. absurd (nothing at marked);
  others = λ i e p less here state. absurd (omega (arith, less));
}
  where
    nothing : (at : ℕ) → slice_get [] at ≡ Some true → ⊥
    nothing at marked = cc

module _ (t t' : Table) (grows : Grows t t') (nodes : List Kept) (known : AreThere t nodes) where
  pub all_there : AreThere t' nodes
  all_there at n here = there_still t t' n.place.store n.place.works.items grows (known at n here)

  same_place : (at : ℕ) (n : Kept) → slice_get nodes at ≡ Some n → place_of t' n ≡ place_of t n
  same_place at n here =
      ap (λ (k : Configuration). record { configuration = k; noted = tt })
      (stays t t' n.place.store n.place.works.items grows (known at n here))

  loud_before : (at : ℕ) (n : Kept) (u : ℕ) → slice_get nodes at ≡ Some n → IsLoud t'.file (place_of t' n) u →
      IsLoud t.file (place_of t n) u
  loud_before at n u here loud =
      subst (λ (f : File). IsLoud f (place_of t n) u) grows.file
      (subst (λ (p : Place). IsLoud t'.file p u) (same_place at n here) loud)

  silent_before : (at : ℕ) (n : Kept) (u : ℕ) → slice_get nodes at ≡ Some n → IsSilent t'.file (place_of t' n) u →
      IsSilent t.file (place_of t n) u
  silent_before at n u here silent =
      subst (λ (f : File). IsSilent f (place_of t n) u) grows.file
      (subst (λ (p : Place). IsSilent t'.file p u) (same_place at n here) silent)

  -- one edge more
  module _ (edges : List Edge) (i : ℕ) (e : Edge) (e_here : slice_get edges i ≡ Some e)
      (within : e.from < length nodes) (marks marks' : List Bool)
      (only : (at : ℕ) → slice_get marks' at ≡ Some true →
      (slice_get marks at ≡ Some true)
      ⊎ ((at ≡ e.from)
      × ((n : Kept) → slice_get nodes at ≡ Some n → IsLoud t'.file (place_of t' n) e.actor)))
      (keeps : (at : ℕ) → slice_get marks at ≡ Some true → slice_get marks' at ≡ Some true)
      (now : (n : Kept) → slice_get nodes e.from ≡ Some n →
      (slice_get marks' e.from ≡ Some true) ⊎ IsSilent t'.file (place_of t' n) e.actor)
      (was : AreLoud t.file (places_of t nodes) edges i marks) where
    only_more : (at : ℕ) → slice_get marks' at ≡ Some true → IsLoudAt t.file (places_of t nodes) at
    only_more at marked = by_place (only at marked)
      where
        by_place : (slice_get marks at ≡ Some true)
            ⊎ ((at ≡ e.from)
            × ((n : Kept) → slice_get nodes at ≡ Some n → IsLoud t'.file (place_of t' n) e.actor)) →
            IsLoudAt t.file (places_of t nodes) at
        by_place (inl old) = was.only at old
        by_place (inr (same, loud)) =
            let n = lists.there nodes e.from within in
            let here : slice_get nodes at ≡ Some n.0 = ap (slice_get nodes) same ∙ n.1 in (
              place_of t n.0,
              map_there (place_of t) nodes at n.0 here,
              e.actor,
              loud_before at n.0 e.actor here (loud n.0 here),
            )

    now_here : (p : Place) → slice_get (places_of t nodes) e.from ≡ Some p →
        (slice_get marks' e.from ≡ Some true) ⊎ IsSilent t.file p e.actor
    now_here p state =
        let n = map_from (place_of t) nodes e.from p state in
        by_mark n.0 n.1 n.2 (now n.0 n.1)
      where
        by_mark : (n : Kept) → slice_get nodes e.from ≡ Some n → place_of t n ≡ p →
            (slice_get marks' e.from ≡ Some true) ⊎ IsSilent t'.file (place_of t' n) e.actor →
            (slice_get marks' e.from ≡ Some true) ⊎ IsSilent t.file p e.actor
        by_mark n here same (inl marked) = inl marked
        by_mark n here same (inr silent) =
            inr (subst (λ (q : Place). IsSilent t.file q e.actor) same (silent_before e.from n e.actor here silent))

    others_more : (j : ℕ) (f : Edge) (p : Place) → j < i + 1 → slice_get edges j ≡ Some f →
        slice_get (places_of t nodes) f.from ≡ Some p →
        (slice_get marks' f.from ≡ Some true) ⊎ IsSilent t.file p f.actor
    others_more j f p less f_here state = by_place (cases_lt j i)
      where
        by_old : (slice_get marks f.from ≡ Some true) ⊎ IsSilent t.file p f.actor →
            (slice_get marks' f.from ≡ Some true) ⊎ IsSilent t.file p f.actor
        by_old (inl marked) = inl (keeps f.from marked)
        by_old (inr silent) = inr silent

        by_place : (j < i) ⊎ (i ≤ j) → (slice_get marks' f.from ≡ Some true) ⊎ IsSilent t.file p f.actor
        by_place (inl before) = by_old (was.others j f p before f_here state)
        by_place (inr past) =
            let at : j ≡ i = omega (arith, past, less) in
            let same : e ≡ f = some_is (sym e_here ∙ ap (slice_get edges) (sym at) ∙ f_here) in
            subst (λ (g : Edge). slice_get (places_of t nodes) g.from ≡ Some p →
            (slice_get marks' g.from ≡ Some true) ⊎ IsSilent t.file p g.actor) same (now_here p) state

    pub loud_more : AreLoud t.file (places_of t nodes) edges (i + 1) marks'
    loud_more = record { only = only_more; others = others_more }
