-- Lists by place.
use Rattle.std.proofs.Common.{◌≡◌, ◌⊎◌, inl, inr, ℕ, zero, suc, ◌<◌, List, [], ◌∷◌, ◌++◌, length, Some, refl, sym, ap}
use Rattle.std.proofs.Common.{◌∙◌, arith}
use Rattle.std.specs.Prelude.{Contains, slice_get, slice_set}
use Rattle.std.proofs.lemmas.Option.{get_or_from_slice_get, slice_get-get_or}

pub some_is : {A : Type 0} {x y : A} → Some x ≡ Some y → x ≡ y
some_is h = cc

-- what stands at a place, and the place of what stands there
pub there : {A : Type 0} (xs : List A) (i : ℕ) → i < length xs → (x : A) × (slice_get xs i ≡ Some x)
there [] i h = absurd (omega arith)
there (x ∷ xs) zero h = (x, refl)
there (x ∷ xs) (suc i) h = there xs i (omega arith)

pub below : {A : Type 0} (xs : List A) (i : ℕ) (x : A) → slice_get xs i ≡ Some x → i < length xs
below [] i x h = cc
below (y ∷ ys) zero x h = omega arith
below (y ∷ ys) (suc i) x h = let l = below ys i x h in omega arith

-- ---- an item that was set

pub set_same : {A : Type 0} (xs : List A) (n : ℕ) (y : A) → n < length xs → slice_get (slice_set xs n y) n ≡ Some y
set_same [] n y h = absurd (omega arith)
set_same (a ∷ xs) zero y h = refl
set_same (a ∷ xs) (suc n) y h = set_same xs n y (omega arith)

pub set_other : {A : Type 0} (xs : List A) (n m : ℕ) (y : A) → (m ≡ n → ⊥) →
    slice_get (slice_set xs n y) m ≡ slice_get xs m
set_other [] n m y h = refl
set_other (a ∷ xs) zero zero y h = absurd (h refl)
set_other (a ∷ xs) zero (suc m) y h = refl
set_other (a ∷ xs) (suc n) zero y h = refl
set_other (a ∷ xs) (suc n) (suc m) y h = set_other xs n m y (λ e. h (ap suc e))

pub length-set : {A : Type 0} (xs : List A) (n : ℕ) (y : A) → length (slice_set xs n y) ≡ length xs
length-set [] n y = refl
length-set (x ∷ xs) zero y = refl
length-set (x ∷ xs) (suc n) y = ap suc (length-set xs n y)

-- ---- one item more

pub pushed_left : {A : Type 0} (xs : List A) (x : A) (i : ℕ) (y : A) → slice_get xs i ≡ Some y →
    slice_get (xs ++ x ∷ []) i ≡ Some y
pushed_left [] x i y h = cc
pushed_left (z ∷ zs) x zero y h = h
pushed_left (z ∷ zs) x (suc i) y h = pushed_left zs x i y h

pub pushed_last : {A : Type 0} (xs : List A) (x : A) → slice_get (xs ++ x ∷ []) (length xs) ≡ Some x
pushed_last [] x = refl
pushed_last (y ∷ ys) x = pushed_last ys x

-- what stands in a list with one more item, and where
pub pushed_where : {A : Type 0} (xs : List A) (x : A) (i : ℕ) (y : A) →
    slice_get (xs ++ x ∷ []) i ≡ Some y →
    (slice_get xs i ≡ Some y) ⊎ ((i ≡ length xs) × (x ≡ y))
pushed_where [] x zero y h = inr (refl, some_is h)
pushed_where [] x (suc i) y h = cc
pushed_where (z ∷ zs) x zero y h = inl h
pushed_where (z ∷ zs) x (suc i) y h = by_rest (pushed_where zs x i y h)
  where
    by_rest : (slice_get zs i ≡ Some y) ⊎ ((i ≡ length zs) × (x ≡ y)) →
        (slice_get (z ∷ zs) (suc i) ≡ Some y) ⊎ ((suc i ≡ length (z ∷ zs)) × (x ≡ y))
    by_rest (inl e) = inl e
    by_rest (inr (e, same)) = inr (ap suc e, same)

-- ---- items by place

pub at_there : {A : Type 0} (xs : List A) (k : ℕ) (x : A) → slice_get xs k ≡ Some x → Contains xs x
at_there xs k x e = (k, below xs k x e, get_or_from_slice_get xs k x x e)

pub there_at : {A : Type 0} (xs : List A) (x : A) → (h : Contains xs x) → slice_get xs h.0 ≡ Some x
there_at xs x h = slice_get-get_or xs h.0 x h.1 ∙ ap Some h.2

pub contains_left : {A : Type 0} (xs : List A) (x y : A) → Contains xs y → Contains (xs ++ x ∷ []) y
contains_left xs x y h = at_there (xs ++ x ∷ []) h.0 y (pushed_left xs x h.0 y (there_at xs y h))

pub contains_last : {A : Type 0} (xs : List A) (x : A) → Contains (xs ++ x ∷ []) x
contains_last xs x = at_there (xs ++ x ∷ []) (length xs) x (pushed_last xs x)

pub contains_cases : {A : Type 0} (xs : List A) (x y : A) → Contains (xs ++ x ∷ []) y → Contains xs y ⊎ (x ≡ y)
contains_cases xs x y h = by_place (pushed_where xs x h.0 y (there_at (xs ++ x ∷ []) y h))
  where
    by_place : (slice_get xs h.0 ≡ Some y) ⊎ ((h.0 ≡ length xs) × (x ≡ y)) → Contains xs y ⊎ (x ≡ y)
    by_place (inl e) = inl (at_there xs h.0 y e)
    by_place (inr (e, same)) = inr same

pub contains_none : {A : Type 0} (xs : List A) (y : A) → xs ≡ [] → Contains xs y → ⊥
contains_none xs y none h = nothing h.0 (ap (λ l. slice_get l h.0) (sym none) ∙ there_at xs y h)
  where
    nothing : (k : ℕ) → slice_get [] k ≡ Some y → ⊥
    nothing k e = cc

-- ---- lists with a last item

pub not_empty : {A : Type 0} (xs : List A) (x : A) → xs ++ x ∷ [] ≡ [] → ⊥
not_empty [] x e = cc
not_empty (y ∷ ys) x e = cc

pub one_less : {A : Type 0} (xs ys : List A) (x y : A) → xs ++ x ∷ [] ≡ ys ++ y ∷ [] → (xs ≡ ys) × (x ≡ y)
one_less [] [] x y e = (refl, cc)
one_less [] (z ∷ ys) x y e = let none : [] ≡ ys ++ y ∷ [] = cc in absurd (not_empty ys y (sym none))
one_less (z ∷ xs) [] x y e = let none : xs ++ x ∷ [] ≡ [] = cc in absurd (not_empty xs x none)
one_less (z ∷ xs) (w ∷ ys) x y e =
    let first : z ≡ w = cc in
    let rest : xs ++ x ∷ [] ≡ ys ++ y ∷ [] = cc in
    let r = one_less xs ys x y rest in
    (ap (λ a. a ∷ xs) first ∙ ap (λ l. w ∷ l) r.0, r.1)
