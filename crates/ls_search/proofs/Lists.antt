-- Lists by place.
use Rattle.std.proofs.Common.{◌≡◌, ℕ, zero, suc, ◌+◌, ◌<◌, List, [], ◌∷◌, ◌++◌, length, Some, refl, ap, arith}
use Rattle.std.proofs.Common.{slice_get, slice_index_or}

-- an item of the first of two lists
pub get_left : {A : Type 0} → (xs ys : List A) (n : ℕ) → n < length xs → slice_get (xs ++ ys) n ≡ slice_get xs n
get_left [] ys n h = absurd (omega arith)
get_left (x ∷ xs) ys zero h = refl
get_left (x ∷ xs) ys (suc n) h = get_left xs ys n (omega arith)

-- an item of the second of two lists
pub get_right : {A : Type 0} → (xs ys : List A) (n j : ℕ) → n ≡ length xs + j → slice_get (xs ++ ys) n ≡ slice_get ys j
get_right [] ys n j e = let e' : n ≡ j = omega arith in ap (λ k. slice_get ys k) e'
get_right (x ∷ xs) ys zero j e = absurd (omega arith)
get_right (x ∷ xs) ys (suc n) j e = get_right xs ys n j (omega arith)

-- the number of an item is below the length
pub get_within : {A : Type 0} → (xs : List A) (n : ℕ) (x : A) → slice_get xs n ≡ Some x → n < length xs
get_within [] n x h = cc
get_within (y ∷ xs) zero x h = omega arith
get_within (y ∷ xs) (suc n) x h = let r = get_within xs n x h in omega arith

-- below the length there is an item
pub get_there : {A : Type 0} → (xs : List A) (n : ℕ) → n < length xs → (x : A) × (slice_get xs n ≡ Some x)
get_there [] n h = absurd (omega arith)
get_there (y ∷ xs) zero h = (y, refl)
get_there (y ∷ xs) (suc n) h = get_there xs n (omega arith)

-- an item with a default, if it exists
pub index_there : {A : Type 0} → (xs : List A) (n : ℕ) (x d : A) → slice_get xs n ≡ Some x → slice_index_or xs n d ≡ x
index_there [] n x d h = cc
index_there (y ∷ xs) zero x d h = let e : y ≡ x = cc in e
index_there (y ∷ xs) (suc n) x d h = index_there xs n x d h

-- the item that was put at the end
pub get_end : {A : Type 0} → (xs : List A) (n : ℕ) (x : A) → n ≡ length xs → slice_get (xs ++ x ∷ []) n ≡ Some x
get_end xs n x e = get_right xs (x ∷ []) n 0 (omega arith)
