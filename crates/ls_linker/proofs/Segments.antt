-- What is at a number of a list.
use Rattle.std.proofs.Common.{◌≡◌, ℕ, zero, suc, ◌≤◌, ◌<◌, List, [], ◌∷◌, length, map, take, Some, None, option_map}
use Rattle.std.proofs.Common.{refl, subst, ap, ◌∙◌, arith}
use Rattle.std.specs.Prelude.{All, slice_get}
use Rattle.std.proofs.lemmas.Option.{get_or_from_slice_get, slice_get-map}

some_none : {A : Type 0} {x : A} → None ≡ Some x → ⊥
some_none e = cc

-- the number of an item is below the length
pub in_range : {A : Type 0} (xs : List A) (n : ℕ) (x : A) → slice_get xs n ≡ Some x → n < length xs
in_range [] n x e = absurd (some_none e)
in_range (y ∷ ys) zero x e = omega arith
in_range (y ∷ ys) (suc n) x e = omega (arith, in_range ys n x e)

-- an item of a mapped list
pub at_mapped : {A B : Type 0} (f : A → B) (xs : List A) (n : ℕ) (x : A) →
    slice_get xs n ≡ Some x →
    slice_get (map f xs) n ≡ Some (f x)
at_mapped f xs n x e = slice_get-map f xs n ∙ ap (option_map f) e

-- how many items are taken
pub length_taken : {A : Type 0} (n : ℕ) (xs : List A) → n ≤ length xs → length (take n xs) ≡ n
length_taken zero xs le = refl
length_taken (suc n) [] le = absurd (let f : ⊥ = omega arith in f)
length_taken (suc n) (x ∷ xs) le = let e = length_taken n xs (omega arith) in omega (arith, e)

-- what holds of each item holds of the item at a number
pub all_at : {A : Type 0} (P : A → Type 0) (xs : List A) → All P xs → (n : ℕ) (x : A) → slice_get xs n ≡ Some x → P x
all_at P xs h n x e = subst P (get_or_from_slice_get xs n x x e) (h n x (in_range xs n x e))
