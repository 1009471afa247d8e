-- What stands at places of lists.
use Rattle.std.proofs.Common.{◌≡◌, ◌⊎◌, inl, inr, ℕ, zero, suc, ◌<◌, List, [], ◌∷◌, ◌++◌, length, map, drop, Some, refl}
use Rattle.std.proofs.Common.{sym, ap, ◌∙◌, arith}
use Rattle.std.specs.Prelude.{slice_get, option_map}
use Rattle.std.proofs.lemmas.List.{length-map}
use Rattle.std.proofs.lemmas.Option.{slice_get-map}
use Rattle.ls_graph.specs.Grown.{Keeps}

pub some_is : {A : Type 0} {x y : A} → Some x ≡ Some y → x ≡ y
some_is h = cc

-- what stands at a place of a list, and the place of what stands there
pub there : {A : Type 0} (xs : List A) (i : ℕ) → i < length xs → (x : A) × (slice_get xs i ≡ Some x)
there [] i h = absurd (omega arith)
there (x ∷ xs) zero h = (x, refl)
there (x ∷ xs) (suc i) h = there xs i (omega arith)

pub below : {A : Type 0} (xs : List A) (i : ℕ) (x : A) → slice_get xs i ≡ Some x → i < length xs
below [] i x h = cc
below (y ∷ ys) zero x h = omega arith
below (y ∷ ys) (suc i) x h = let l = below ys i x h in omega arith

pub keeps_pushed : {A : Type 0} (xs : List A) (x : A) → Keeps xs (xs ++ x ∷ [])
keeps_pushed [] x n y h = cc
keeps_pushed (z ∷ zs) x zero y h = h
keeps_pushed (z ∷ zs) x (suc n) y h = keeps_pushed zs x n y h

pub last_there : {A : Type 0} (xs : List A) (x : A) → slice_get (xs ++ x ∷ []) (length xs) ≡ Some x
last_there [] x = refl
last_there (y ∷ ys) x = last_there ys x

-- what stands in a list with one more item, and where
pub pushed_where : {A : Type 0} (xs : List A) (x : A) (i : ℕ) (y : A) →
    slice_get (xs ++ x ∷ []) i ≡ Some y →
    (slice_get xs i ≡ Some y) ⊎ ((i ≡ length xs) × (x ≡ y))
pushed_where [] x zero y h = inr (refl, some_is h)
pushed_where [] x (suc i) y h = cc
pushed_where (z ∷ zs) x zero y h = inl h
pushed_where (z ∷ zs) x (suc i) y h = by_rest (pushed_where zs x i y h)
  where
    by_rest : (slice_get zs i ≡ Some y) ⊎ ((i ≡ length zs) × (x ≡ y)) →
        (slice_get (z ∷ zs) (suc i) ≡ Some y) ⊎ ((suc i ≡ length (z ∷ zs)) × (x ≡ y))
    by_rest (inl e) = inl e
    by_rest (inr (e, same)) = inr (ap suc e, same)

-- the same without its place
pub pushed_cases : {A : Type 0} (xs : List A) (x : A) (i : ℕ) (y : A) →
    slice_get (xs ++ x ∷ []) i ≡ Some y →
    (slice_get xs i ≡ Some y) ⊎ (x ≡ y)
pushed_cases xs x i y h = by_place (pushed_where xs x i y h)
  where
    by_place : (slice_get xs i ≡ Some y) ⊎ ((i ≡ length xs) × (x ≡ y)) → (slice_get xs i ≡ Some y) ⊎ (x ≡ y)
    by_place (inl e) = inl e
    by_place (inr (e, same)) = inr same

pub map_there : {A B : Type 0} (f : A → B) (xs : List A) (i : ℕ) (x : A) →
    slice_get xs i ≡ Some x →
    slice_get (map f xs) i ≡ Some (f x)
map_there f xs i x e = slice_get-map f xs i ∙ ap (option_map f) e

-- what stands in a list of images is one
pub map_from : {A B : Type 0} (f : A → B) (xs : List A) (i : ℕ) (y : B) →
    slice_get (map f xs) i ≡ Some y →
    (x : A) × (slice_get xs i ≡ Some x) × (f x ≡ y)
map_from f xs i y e =
    let within : i < length xs = let w = below (map f xs) i y e in omega (arith, w, length-map xs f) in
    let at = there xs i within in
    (at.0, at.1, some_is (sym (map_there f xs i at.0 at.1) ∙ e))

-- what stands at a place that was there stood there before
pub same_there : {A : Type 0} (xs ys : List A) (at : ℕ) (x : A) → Keeps xs ys → at < length xs →
    slice_get ys at ≡ Some x →
    slice_get xs at ≡ Some x
same_there xs ys at x keeps within e =
    let was = there xs at within in
    was.1 ∙ sym (keeps at was.0 was.1) ∙ e

-- what is left of a list from a place on begins with what stands there
pub drop_next : {A : Type 0} (xs : List A) (i : ℕ) (x : A) → slice_get xs i ≡ Some x → drop i xs ≡ x ∷ drop (suc i) xs
drop_next [] i x e = absurd (none_not e)
  where
    none_not : slice_get [] i ≡ Some x → ⊥
    none_not h = cc
drop_next (y ∷ ys) zero x e = cc
drop_next (y ∷ ys) (suc i) x e = drop_next ys i x e
