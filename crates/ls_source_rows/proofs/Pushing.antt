-- A list that is made item by item, each of which is told of its place.
use Rattle.std.proofs.Common.{◌≡◌, ◌⊎◌, inl, inr, ℕ, ◌+◌, ◌<◌, ◌≤◌, List, [], ◌∷◌, ◌++◌, length, Some, sym}
use Rattle.std.proofs.Common.{ap, ◌∙◌, subst}
use Rattle.std.proofs.Common.{arith}
use Rattle.std.specs.Prelude.{Bool, not, slice_get}
use Rattle.std.proofs.lemmas.Bool.{cases_lt}
use Rattle.ls_history_numbers.proofs.Lists.{pushed_last, pushed_left}
use Rattle.ls_search.specs.declared.places.Node.{Node}
use Rattle.ls_search.specs.declared.places.Seen.{Seen}

pub told_more : {A : Type 0} (P : ℕ → A → Type 0) (old new : List A) (count : ℕ) (x : A) →
    length old ≡ count →
    new ≡ old ++ x ∷ [] →
    ((y : A) → P count y → x ≡ y) →
    ((i : ℕ) (y : A) → i < count → P i y → slice_get old i ≡ Some y) →
    (i : ℕ) (y : A) →
    i < count + 1 →
    P i y →
    slice_get new i ≡ Some y
told_more {A} P old new count x many more last before i y within told = by_place (cases_lt i count)
  where
    by_place : (i < count) ⊎ (count ≤ i) → slice_get new i ≡ Some y
    by_place (inl less) =
        ap (λ (l : List A). slice_get l i) more ∙ pushed_left old x i y (before i y less told)
    by_place (inr past) =
        let here : i ≡ count = omega arith in
        let at : i ≡ length old = here ∙ sym many in
        ap (λ (l : List A). slice_get l i) more
        ∙ ap (slice_get (old ++ x ∷ [])) at
        ∙ pushed_last old x
        ∙ ap Some (last y (subst (λ k. P k y) here told))

-- the number of the history of the state at a place
abbrev pub HasNumber : List ℕ → List Node → ℕ → ℕ → Type 0
HasNumber numbers nodes i number =
    (n : Node) × (slice_get nodes i ≡ Some n) × (slice_get numbers n.place.noted ≡ Some number)

-- whether no thread acts after it
abbrev pub HasEnd : List Seen → ℕ → Bool → Type 0
HasEnd seen i b = (s : Seen) × (slice_get seen i ≡ Some s) × (b ≡ not s.acts)
