-- Sums over the views of a table.
use Rattle.std.proofs.Common.{◌≡◌, ℕ, ◌+◌, ◌<◌, ◌≤◌, ◌≢◌, ◌⊎◌, inl, inr, ⊎_elim, zero, suc, List, [], ◌∷◌, ◌++◌, length}
use Rattle.std.proofs.Common.{set, refl, sym, ap, arith, lt_of_not-le}
use native.Mathlib.Decide.{dec_le}
use mathlib.Core.Option.{some, some-injective, some-ne-none}
use lib.ListN.{get_elem?}
use Rattle.ls_live.specs.declared.view.View.{View}
use Rattle.ls_live.specs.Views.{total}

-- the count after one view changed
pub total_set : (f : View → ℕ) (vs : List View) (i : ℕ) (v w : View) →
    get_elem? vs i ≡ some v →
    total f (set vs i w) + f v ≡ total f vs + f w
total_set f [] i v w e = absurd (some-ne-none v (sym e))
total_set f (x ∷ xs) zero v w e = let p = ap f (some-injective x v e) in omega arith
total_set f (x ∷ xs) (suc i) v w e = let h = total_set f xs i v w e in omega arith

pub total_snoc : (f : View → ℕ) (vs : List View) (w : View) → total f (vs ++ w ∷ []) ≡ total f vs + f w
total_snoc f [] w = omega arith
total_snoc f (x ∷ xs) w = let h = total_snoc f xs w in omega arith

pub total_le : (f : View → ℕ) (vs : List View) (i : ℕ) (v : View) → get_elem? vs i ≡ some v → f v ≤ total f vs
total_le f [] i v e = absurd (some-ne-none v (sym e))
total_le f (x ∷ xs) zero v e = let p = ap f (some-injective x v e) in omega arith
total_le f (x ∷ xs) (suc i) v e = let h = total_le f xs i v e in omega arith

-- two views count for no more than all
pub total_two : (f : View → ℕ) (vs : List View) (i j : ℕ) (v w : View) →
    get_elem? vs i ≡ some v →
    get_elem? vs j ≡ some w →
    i ≢ j →
    f v + f w ≤ total f vs
total_two f [] i j v w e h n = absurd (some-ne-none v (sym e))
total_two f (x ∷ xs) zero zero v w e h n = absurd (n refl)
total_two f (x ∷ xs) zero (suc j) v w e h n = let p = ap f (some-injective x v e) in let q = total_le f xs j w h in
    omega arith
total_two f (x ∷ xs) (suc i) zero v w e h n = let p = ap f (some-injective x w h) in let q = total_le f xs i v e in
    omega arith
total_two f (x ∷ xs) (suc i) (suc j) v w e h n = let q = total_two f xs i j v w e h (λ k. n (ap suc k)) in omega arith

-- where the count is not 0, a view counts
pub some_counts : (f : View → ℕ) (vs : List View) →
    0 < total f vs →
    (i : ℕ) × (v : View) × (get_elem? vs i ≡ some v) × (0 < f v)
some_counts f [] h = absurd (omega arith)
some_counts f (x ∷ xs) h =
    elim (dec_le 1 (f x)) [
      | yes p ↦ (0, x, refl, p)
      | no n ↦ let t = some_counts f xs (let q = lt_of_not-le n in omega arith) in (suc t.0, t.1, t.2, t.3)
    ]

pub at_end : (vs : List View) (w u : View) (j : ℕ) →
    get_elem? (vs ++ w ∷ []) j ≡ some u →
    (get_elem? vs j ≡ some u) ⊎ ((j ≡ length vs) × (w ≡ u))
at_end [] w u zero e = inr (refl, some-injective w u e)
at_end [] w u (suc j) e = absurd (some-ne-none u (sym e))
at_end (x ∷ xs) w u zero e = inl e
at_end (x ∷ xs) w u (suc j) e = ⊎_elim (λ h. inl h) (λ h. inr (omega arith, h.1)) (at_end xs w u j e)

pub total_none : (f : View → ℕ) (vs : List View) →
    ((j : ℕ) (u : View) → get_elem? vs j ≡ some u → f u ≡ 0) →
    total f vs ≡ 0
total_none f [] h = refl
total_none f (x ∷ xs) h = let z = h zero x refl in let q = total_none f xs (λ j u k. h (suc j) u k) in omega arith

-- the views but one all count for nothing
pub total_one : (f : View → ℕ) (vs : List View) (i : ℕ) (v : View) →
    get_elem? vs i ≡ some v →
    ((j : ℕ) (u : View) → get_elem? vs j ≡ some u → j ≢ i → f u ≡ 0) →
    total f vs ≡ f v
total_one f [] i v e h = absurd (some-ne-none v (sym e))
total_one f (x ∷ xs) zero v e h = let p = ap f (some-injective x v e) in
    let z = total_none f xs (λ j u k. h (suc j) u k (λ n. omega arith)) in omega arith
total_one f (x ∷ xs) (suc i) v e h = let z = h zero x refl (λ n. omega arith) in
    let q = total_one f xs i v e (λ j u k n. h (suc j) u k (λ m. n (omega arith))) in omega arith
