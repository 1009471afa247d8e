-- A list with one item more.
use Rattle.std.proofs.Common.{◌≡◌, ℕ, zero, suc, ◌+◌, List, [], ◌∷◌, ◌++◌, Some, length, refl, ap, arith}
use Rattle.std.specs.Prelude.{slice_get}

pub some_is : {A : Type 0} {x y : A} → Some x ≡ Some y → x ≡ y
some_is e = cc

pub length_more : {A : Type 0} (xs : List A) (x : A) → length (xs ++ x ∷ []) ≡ length xs + 1
length_more [] x = refl
length_more (y ∷ xs) x =
    let more = length_more xs x in
    omega (arith, more)

-- an item is one of the old ones, or it is the last
pub item_of : {A P : Type 0} (xs : List A) (x y : A) (i : ℕ) → slice_get (xs ++ x ∷ []) i ≡ Some y →
    (slice_get xs i ≡ Some y → P) →
    (i ≡ length xs → x ≡ y → P) →
    P
item_of [] x y zero e f g = g refl (some_is e)
item_of [] x y (suc i) e f g = absurd (none e)
  where
    none : slice_get (x ∷ []) (suc i) ≡ Some y → ⊥
    none h = cc
item_of (z ∷ xs) x y zero e f g = f e
item_of (z ∷ xs) x y (suc i) e f g = item_of xs x y i e f (λ at same. g (ap suc at) same)
