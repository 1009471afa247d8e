-- Paths no two of which are the same.
use Rattle.std.proofs.Common.{◌≡◌, ◌⊎◌, inl, inr, ℕ, ◌+◌, ◌<◌, ◌≤◌, List, [], ◌∷◌, ◌++◌, length, length-append, Some}
use Rattle.std.proofs.Common.{refl, sym, ap, ◌∙◌, subst, arith, slice_get}
use Rattle.std.proofs.lemmas.Bool.{cases_lt}
use Rattle.ls_preservation.proofs.Lists.{get_left, get_right, get_within}
use Rattle.ls_explore.specs.Searches.{AreDistinct, GoesOnFrom}

some_is : {A : Type 0} {x y : A} → Some x ≡ Some y → x ≡ y
some_is h = cc

not_empty : (p : List ℕ) (t : ℕ) → p ++ t ∷ [] ≡ [] → ⊥
not_empty [] t e = cc
not_empty (x ∷ p) t e = cc

-- where two paths with one more thread are the same, the paths are, and the threads
one_less : (p q : List ℕ) (t u : ℕ) → p ++ t ∷ [] ≡ q ++ u ∷ [] → (p ≡ q) × (t ≡ u)
one_less [] [] t u e = (refl, cc)
one_less [] (y ∷ q) t u e = let none : [] ≡ q ++ u ∷ [] = cc in absurd (not_empty q u (sym none))
one_less (x ∷ p) [] t u e = let none : p ++ t ∷ [] ≡ [] = cc in absurd (not_empty p t none)
one_less (x ∷ p) (y ∷ q) t u e =
    let first : x ≡ y = cc in
    let rest : p ++ t ∷ [] ≡ q ++ u ∷ [] = cc in
    let r = one_less p q t u rest in
    (ap (λ z. z ∷ p) first ∙ ap (λ l. y ∷ l) r.0, r.1)

-- what goes on from a path before a place does so before a later one, also among more paths
goes_later : (old new : List (List ℕ)) (i t j u : ℕ) (path : List ℕ) →
    ((k : ℕ) (p : List ℕ) → slice_get old k ≡ Some p → slice_get new k ≡ Some p) →
    ((k v : ℕ) → (k < i) ⊎ ((k ≡ i) × (v < t)) → (k < j) ⊎ ((k ≡ j) × (v < u))) →
    (path ≡ []) ⊎ GoesOnFrom old i t path →
    (path ≡ []) ⊎ GoesOnFrom new j u path
goes_later old new i t j u path stay later (inl e) = inl e
goes_later old new i t j u path stay later (inr g) = inr (record {
  place = g.place;
  thread = g.thread;
  before = g.before;
  at = stay g.place g.before g.at;
  is = g.is;
  early = later g.place g.thread g.early;
})

next_thread : (i t k v : ℕ) → (k < i) ⊎ ((k ≡ i) × (v < t)) → (k < i) ⊎ ((k ≡ i) × (v < t + 1))
next_thread i t k v (inl lt) = inl lt
next_thread i t k v (inr (e, lt)) = inr (e, omega arith)

next_path : (i t k v : ℕ) → (k < i) ⊎ ((k ≡ i) × (v < t)) → (k < i + 1) ⊎ ((k ≡ i + 1) × (v < 0))
next_path i t k v (inl lt) = inl (omega arith)
next_path i t k v (inr (e, lt)) = inl (omega arith)

-- the empty path alone
pub distinct_first : (paths : List (List ℕ)) → paths ≡ [] ∷ [] → AreDistinct paths 0 0
distinct_first paths e = subst (λ ps. AreDistinct ps 0 0) (sym e) (record { once = once; made = made })
  where
    once : (j k : ℕ) (p : List ℕ) → slice_get ([] ∷ []) j ≡ Some p → slice_get ([] ∷ []) k ≡ Some p → j ≡ k
    once j k p at there = omega (arith, get_within ([] ∷ []) j p at, get_within ([] ∷ []) k p there)

    made : (j : ℕ) (p : List ℕ) → slice_get ([] ∷ []) j ≡ Some p → (p ≡ []) ⊎ GoesOnFrom ([] ∷ []) 0 0 p
    made j p at =
        let none : j ≡ 0 = omega (arith, get_within ([] ∷ []) j p at) in
        inl (some_is (sym at ∙ ap (slice_get ([] ∷ [])) none))

-- after the last thread
pub distinct_path : (paths : List (List ℕ)) (i t : ℕ) → AreDistinct paths i t → AreDistinct paths (i + 1) 0
distinct_path paths i t h = record {
  once = h.once;
  made = λ j p at. goes_later paths paths i t (i + 1) 0 p (λ k q e. e) (next_path i t) (h.made j p at);
}

-- one thread more, by which there is no path more
pub distinct_same : (paths : List (List ℕ)) (i t : ℕ) → AreDistinct paths i t → AreDistinct paths i (t + 1)
distinct_same paths i t h = record {
  once = h.once;
  made = λ j p at. goes_later paths paths i t i (t + 1) p (λ k q e. e) (next_thread i t) (h.made j p at);
}

-- or one
module _ (old : List (List ℕ)) (i t : ℕ) (path : List ℕ) (here : slice_get old i ≡ Some path) (h : AreDistinct old i t)
  where
    abbrev last : List ℕ
    last = path ++ t ∷ []

    abbrev new : List (List ℕ)
    new = old ++ last ∷ []

    stays : (k : ℕ) (p : List ℕ) → slice_get old k ≡ Some p → slice_get new k ≡ Some p
    stays k p at = get_left old (last ∷ []) k (get_within old k p at) ∙ at

    at_place : (k : ℕ) (p : List ℕ) →
        slice_get new k ≡ Some p →
        (slice_get old k ≡ Some p) ⊎ ((k ≡ length old) × (p ≡ last))
    at_place k p at = by_place (cases_lt k (length old))
      where
        by_place : (k < length old) ⊎ (length old ≤ k) → (slice_get old k ≡ Some p) ⊎ ((k ≡ length old) × (p ≡ last))
        by_place (inl less) = inl (sym (get_left old (last ∷ []) k less) ∙ at)
        by_place (inr past) =
            let zero_more : k ≡ length old + 0 = omega (
              arith,
              past,
              get_within new k p at,
              length-append old (last ∷ []),
            )
            in
            inr (omega arith, some_is (sym at ∙ get_right old (last ∷ []) k 0 zero_more))

    -- the last path is none of the others
    not_there : (k : ℕ) → slice_get old k ≡ Some last → ⊥
    not_there k at = by_making (h.made k last at)
      where
        by_early : (g : GoesOnFrom old i t last) →
            g.place ≡ i →
            t ≡ g.thread →
            (g.place < i) ⊎ ((g.place ≡ i) × (g.thread < t)) →
            ⊥
        by_early g same thread (inl lt) = omega arith
        by_early g same thread (inr (e, lt)) = omega arith

        by_making : (last ≡ []) ⊎ GoesOnFrom old i t last → ⊥
        by_making (inl e) = not_empty path t e
        by_making (inr g) =
            let both = one_less path g.before t g.thread g.is in
            by_early g (h.once g.place i path (g.at ∙ ap Some (sym both.0)) here) both.1 g.early

    pub distinct_more : AreDistinct new i (t + 1)
    distinct_more = record {
      once = λ j k p at there. once j k p (at_place j p at) (at_place k p there);
      made = λ j p at. made j p (at_place j p at);
    }
      where
        once : (j k : ℕ) (p : List ℕ) →
            (slice_get old j ≡ Some p) ⊎ ((j ≡ length old) × (p ≡ last)) →
            (slice_get old k ≡ Some p) ⊎ ((k ≡ length old) × (p ≡ last)) →
            j ≡ k
        once j k p (inl a) (inl b) = h.once j k p a b
        once j k p (inl a) (inr b) = absurd (not_there j (a ∙ ap Some b.1))
        once j k p (inr a) (inl b) = absurd (not_there k (b ∙ ap Some a.1))
        once j k p (inr a) (inr b) = a.0 ∙ sym b.0

        made : (j : ℕ) (p : List ℕ) →
            (slice_get old j ≡ Some p) ⊎ ((j ≡ length old) × (p ≡ last)) →
            (p ≡ []) ⊎ GoesOnFrom new i (t + 1) p
        made j p (inl a) = goes_later old new i t i (t + 1) p stays (next_thread i t) (h.made j p a)
        made j p (inr b) = inr (record {
          place = i;
          thread = t;
          before = path;
          at = stays i path here;
          is = b.1;
          early = inr (refl, omega arith);
        })

-- the same as the search tells it
pub distinct_grown : (old more : List (List ℕ)) (i t : ℕ) (path : List ℕ) →
    slice_get old i ≡ Some path →
    (more ≡ old) ⊎ (more ≡ old ++ (path ++ t ∷ []) ∷ []) →
    AreDistinct old i t →
    AreDistinct more i (t + 1)
distinct_grown old more i t path here (inl e) h = subst (λ ps. AreDistinct ps i (t + 1)) (sym e)
    (distinct_same old i t h)
distinct_grown old more i t path here (inr e) h = subst (λ ps. AreDistinct ps i (t + 1)) (sym e)
    (distinct_more old i t path here h)
