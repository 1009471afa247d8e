-- Rows have one merge only, if seeds rise in it.
use Rattle.std.proofs.Common.{◌≡◌, ◌∙◌, ◌+◌, ◌<◌, ◌≤◌, ℕ, zero, suc, Bool, true, false, true≢false, List, [], ◌∷◌}
use Rattle.std.proofs.Common.{get_or, Some, None, Less, refl, sym, ap, subst, arith, inl, inr}
use Rattle.std.specs.Prelude.{◌⊎◌, slice_get, IsSorted}
use Rattle.std.specs.Cmp.{nat_cmp_is}
use Rattle.std.specs.Cmp.Lexicographic.{slice_cmp}
use Rattle.std.specs.Ordering.{is_lt, nat_cmp, ordering_then}
use Rattle.std.proofs.lemmas.Bool.{cases_lt}
use Rattle.ls_report.specs.Events.{Text}
use Rattle.ls_report.proofs.CutLemmas.{none_is, some_is}
use Rattle.ls_tallies.specs.Tallies.{gathered, IsMerge, is_of, Row, row, row_cmp}
use Rattle.ls_tallies.proofs.Places.{is_same, same_text, true_is}
use Rattle.ls_tallies.proofs.Told.{both, Once, once_gathered, once_moved, said, told, told_moved}
use Rattle.ls_batch.proofs.Rows.{found, Lacks, not_its, Stands, told_nothing, told_there}

-- rows in order have seeds in order
not_after : (r s : Row) → is_lt (row_cmp s r) ≡ false → r.seed ≤ s.seed
not_after r s h = elim (cases_lt s.seed r.seed) [
  | inl less ↦ absurd
      (true≢false
      (ap (λ x.
      is_lt (ordering_then x (ordering_then (slice_cmp nat_cmp s.history r.history) (nat_cmp s.count r.count))))
      (nat_cmp_is s.seed r.seed Less less) ∙ h))
  | inr le ↦ le
]

rest_sorted : (x : Row) (xs : List Row) → IsSorted row_cmp (x ∷ xs) → IsSorted row_cmp xs
rest_sorted x xs sorted k d low within =
    let next : suc k + 1 ≡ suc (k + 1) = omega arith in
    subst (λ n. is_lt (row_cmp (get_or (x ∷ xs) n d) (get_or xs k d)) ≡ false) next
    (sorted (suc k) d (omega arith) (omega (arith, within)))

-- no row's seed is less than the first one's
first_least : (x : Row) (xs : List Row)
    → IsSorted row_cmp (x ∷ xs)
    → (k : ℕ) (r : Row)
    → slice_get xs k ≡ Some r
    → x.seed ≤ r.seed
first_least x [] sorted k r e = absurd (none_is e)
first_least x (y ∷ ys) sorted k r e = go (first_least y ys (rest_sorted x (y ∷ ys) sorted)) k e
  where
    first : x.seed ≤ y.seed
    first = not_after x y (sorted 0 x (omega arith) (omega arith))

    go : ((k : ℕ) (r : Row) → slice_get ys k ≡ Some r → y.seed ≤ r.seed)
        → (k : ℕ)
        → slice_get (y ∷ ys) k ≡ Some r
        → x.seed ≤ r.seed
    go more zero e = subst (λ (z : Row). x.seed ≤ z.seed) (some_is e) first
    go more (suc k) e = let rest = more k r e in omega (arith, first, rest)

-- a row of which rows tell is one of them
row_there : (rows : List Row) (r : Row)
    → Once rows
    → told r.history rows ≡ said r.count r.seed
    → (k : ℕ) × (slice_get rows k ≡ Some r)
row_there rows r once tells = go (found r.history rows)
  where
    go : Stands r.history rows ⊎ Lacks r.history rows → (k : ℕ) × (slice_get rows k ≡ Some r)
    go (inl z) =
        let both_said = sym (told_there r.history rows once z.at z.row z.there z.same) ∙ tells in
        let f : ℕ × ℕ → ℕ = λ q. q.0 in
        let g : ℕ × ℕ → ℕ = λ q. q.1 in
        let count : z.row.count ≡ r.count = ap f (some_is both_said) in
        let seed : z.row.seed ≡ r.seed = ap g (some_is both_said) in
        let is : z.row ≡ r = λ i. row (z.same i) (count i) (seed i) in
        (z.at, z.there ∙ ap Some is)
    go (inr lacks) = absurd (none_is (sym (told_nothing r.history rows lacks) ∙ tells))

-- each row has a greater seed than those before it
abbrev pub Rising : List Row → Type 0
Rising rows = (j k : ℕ) (r s : Row) → j < k → slice_get rows j ≡ Some r → slice_get rows k ≡ Some s → r.seed < s.seed

-- what is told without the first row
rest_told : (x y : Row) (xs ys : List Row)
    → x ≡ y
    → told x.history xs ≡ None
    → told y.history ys ≡ None
    → ((t : Text) → told t (x ∷ xs) ≡ told t (y ∷ ys))
    → (t : Text) → told t xs ≡ told t ys
rest_told x y xs ys is none none' same t = go (is_of t x) refl
  where
    other : is_of t x ≡ false → (r : Row) → r ≡ x → r.history ≡ t → ⊥
    other e r alike its = true_is (sym (is_same x.history t (ap (λ (z : Row). z.history) (sym alike) ∙ its)) ∙ e)

    go : (b : Bool) → is_of t x ≡ b → told t xs ≡ told t ys
    go true e =
        let its : x.history ≡ t = same_text x.history t e in
        let its' : y.history ≡ t = ap (λ (z : Row). z.history) (sym is) ∙ its in
        subst (λ s. told s xs ≡ None) its none ∙ sym (subst (λ s. told s ys ≡ None) its' none')
    go false e =
        sym (ap (λ o. both o (told t xs)) (not_its t x (other e x refl))) ∙ same t ∙
        ap (λ o. both o (told t ys)) (not_its t y (other e y (sym is)))

-- sorted rows are rising ones if the same is told of each text
same_rising : (xs ys : List Row)
    → IsSorted row_cmp xs
    → Once xs
    → Once ys
    → Rising ys
    → ((t : Text) → told t xs ≡ told t ys)
    → xs ≡ ys
same_rising [] [] sorted ox oy up same = refl
same_rising [] (y ∷ ys) sorted ox oy up same = absurd (none_is
    (same y.history ∙ told_there y.history (y ∷ ys) oy 0 y refl refl))
same_rising (x ∷ xs) [] sorted ox oy up same = absurd (none_is
    (sym (same x.history) ∙ told_there x.history (x ∷ xs) ox 0 x refl refl))
same_rising (x ∷ xs) (y ∷ ys) sorted ox oy up same =
    let is : x ≡ y = first (row_there (y ∷ ys) x oy (sym (same x.history) ∙
    told_there x.history (x ∷ xs) ox 0 x refl refl)) in
    let rest : xs ≡ ys = same_rising xs ys (rest_sorted x xs sorted) ox.1 oy.1
    (λ j k r s lt. up (suc j) (suc k) r s (omega (arith, lt))) (rest_told x y xs ys is ox.0 oy.0 same) in
    λ i. is i ∷ rest i
  where
    other : y.seed < x.seed → (k : ℕ) × (slice_get (x ∷ xs) k ≡ Some y) → x ≡ y
    other less (zero, e) = some_is e
    other less (suc k, e) = let most = first_least x xs sorted k y e in absurd (omega (arith, less, most))

    first : (k : ℕ) × (slice_get (y ∷ ys) k ≡ Some x) → x ≡ y
    first (zero, e) = sym (some_is e)
    first (suc k, e) = other (up 0 (suc k) y x (omega arith) refl e)
        (row_there (x ∷ xs) y ox (same y.history ∙ told_there y.history (y ∷ ys) oy 0 y refl refl))

-- a merge in which seeds rise is the only one
pub only_merge : (rows merge rising : List Row)
    → IsMerge rows merge
    → IsMerge rows rising
    → Rising rising
    → merge ≡ rising
only_merge rows merge rising m r up =
    let once = once_gathered rows in
    same_rising merge rising m.order (once_moved (gathered rows) merge once m.gathers)
    (once_moved (gathered rows) rising once r.gathers) up
    (λ t. told_moved (gathered rows) merge once m.gathers t ∙ sym (told_moved (gathered rows) rising once r.gathers t))
