-- A list, item by item.
use Rattle.std.proofs.Common.{◌≡◌, ◌+◌, ℕ, zero, suc, List, [], ◌∷◌, ◌++◌, Some, ap, arith}
use Rattle.std.specs.Prelude.{slice_get, take}

pub take_next : {A : Type 0} (xs : List A) (i : ℕ) (x : A) → slice_get xs i ≡ Some x →
    take (suc i) xs ≡ take i xs ++ x ∷ []
take_next [] i x e = absurd (none_not e)
  where
    none_not : slice_get [] i ≡ Some x → ⊥
    none_not h = cc
take_next (y ∷ ys) zero x e = cc
take_next (y ∷ ys) (suc i) x e = ap (λ l. y ∷ l) (take_next ys i x e)

pub one_more : (i : ℕ) → i + 1 ≡ suc i
one_more i = omega arith
