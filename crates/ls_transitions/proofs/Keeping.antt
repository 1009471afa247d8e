-- Lists that keep what stands at each place.
use Rattle.std.proofs.Common.{◌≡◌, ℕ, zero, suc, ◌<◌, List, [], ◌∷◌, ◌++◌, length, Some, refl, sym}
use Rattle.std.proofs.Common.{ap, subst, ◌∙◌, ◌⊎◌, inl, inr, arith, get_or}
use Rattle.std.specs.Prelude.{map, slice_get, option_map}
use Rattle.std.proofs.lemmas.List.{map-append, length-map}
use Rattle.std.proofs.lemmas.Option.{slice_get-map, slice_get-get_or}
use Rattle.ls_transitions.specs.Tables.{Keeps}

-- what stands at a place of a list, and the place of what stands there
pub there : {A : Type 0} (xs : List A) (i : ℕ) → i < length xs → (x : A) × (slice_get xs i ≡ Some x)
there [] i h = absurd (omega arith)
there (x ∷ xs) zero h = (x, refl)
there (x ∷ xs) (suc i) h = there xs i (omega arith)

pub below : {A : Type 0} (xs : List A) (i : ℕ) (x : A) → slice_get xs i ≡ Some x → i < length xs
below [] i x h = cc
below (y ∷ ys) zero x h = omega arith
below (y ∷ ys) (suc i) x h = let l = below ys i x h in omega arith

-- a place keeps being one
pub still_below : {A : Type 0} (xs ys : List A) (i : ℕ) → Keeps xs ys → i < length xs → i < length ys
still_below xs ys i keeps h = let at = there xs i h in below ys i at.0 (keeps i at.0 at.1)

keeps_pushed : {A : Type 0} (xs : List A) (x : A) → Keeps xs (xs ++ x ∷ [])
keeps_pushed [] x n y h = cc
keeps_pushed (z ∷ zs) x zero y h = h
keeps_pushed (z ∷ zs) x (suc n) y h = keeps_pushed zs x n y h

last_there : {A : Type 0} (xs : List A) (x : A) → slice_get (xs ++ x ∷ []) (length xs) ≡ Some x
last_there [] x = refl
last_there (y ∷ ys) x = last_there ys x

-- what stands in a list with one more item
pub pushed_cases : {A : Type 0} (xs : List A) (x : A) (i : ℕ) (y : A) →
    slice_get (xs ++ x ∷ []) i ≡ Some y →
    (slice_get xs i ≡ Some y) ⊎ (x ≡ y)
pushed_cases [] x zero y h = inr cc
pushed_cases [] x (suc i) y h = cc
pushed_cases (z ∷ zs) x zero y h = inl h
pushed_cases (z ∷ zs) x (suc i) y h = pushed_cases zs x i y h

-- What items stand for.

pub keeps_more : {A B : Type 0} (f : A → B) (xs ys : List A) (x : A) → ys ≡ xs ++ x ∷ [] → Keeps (map f xs) (map f ys)
keeps_more f xs ys x e =
    subst (Keeps (map f xs)) (sym (ap (map f) e ∙ map-append f xs (x ∷ []))) (keeps_pushed (map f xs) (f x))

pub last_stands : {A B : Type 0} (f : A → B) (xs ys : List A) (x : A) (n : ℕ) →
    ys ≡ xs ++ x ∷ [] →
    n ≡ length xs →
    slice_get (map f ys) n ≡ Some (f x)
last_stands f xs ys x n e is =
    ap (λ l. slice_get l n) (ap (map f) e ∙ map-append f xs (x ∷ []))
    ∙ ap (slice_get (map f xs ++ f x ∷ [])) (is ∙ sym (length-map xs f))
    ∙ last_there (map f xs) (f x)

pub stands : {A B : Type 0} (f : A → B) (xs : List A) (i : ℕ) (x : A) (y : B) →
    slice_get xs i ≡ Some x →
    f x ≡ y →
    slice_get (map f xs) i ≡ Some y
stands f xs i x y e same = slice_get-map f xs i ∙ ap (option_map f) e ∙ ap Some same

-- an item that was read at its place
pub item_there : {A B : Type 0} (f : A → B) (xs : List A) (i : ℕ) (v : A) →
    i < length (map f xs) →
    v ≡ get_or xs i v →
    slice_get (map f xs) i ≡ Some (f v)
item_there f xs i v h is =
    let within : i < length xs = subst (λ k. i < k) (length-map xs f) h in
    slice_get-map f xs i ∙ ap (option_map f) (slice_get-get_or xs i v within) ∙ ap (λ k. Some (f k)) (sym is)
