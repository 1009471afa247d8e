-- What is done of a list so far, and one more.
use Rattle.std.proofs.Common.{◌≡◌, ℕ, ◌+◌, ◌<◌, ◌≤◌, add-one, length, take, map, sym, ap, ◌∙◌, subst, arith, List, []}
use Rattle.std.proofs.Common.{◌∷◌, ◌++◌, Option, Some, None, true, false}
use Rattle.std.specs.Prelude.{All, slice_index_or, is_some}
use Rattle.std.specs.Option.{SomeIff}
use Rattle.std.proofs.Math.Seq.{take-suc}
use Rattle.std.proofs.lemmas.List.{take_all, get_or-map, length-map, map-append}
use Rattle.std.proofs.lemmas.List.Elements.{All-push}

-- one element more
pub taken_at : {X : Type 0} (xs : List X) (i : ℕ) (x : X) →
    i < length xs →
    x ≡ slice_index_or xs i x →
    take (i + 1) xs ≡ take i xs ++ x ∷ []
taken_at xs i x l e = ap (λ n. take n xs) (add-one i) ∙ take-suc xs i x l ∙ ap (λ z. take i xs ++ z ∷ []) (sym e)

-- a property of one element more
pub all_more : {X : Type 0} (P : X → Type 0) (xs : List X) (i : ℕ) (x : X) →
    i < length xs →
    x ≡ slice_index_or xs i x →
    All P (take i xs) →
    P x →
    All P (take (i + 1) xs)
all_more P xs i x l e h p = subst (λ ys. All P ys) (sym (taken_at xs i x l e)) (All-push P (take i xs) x h p)

-- a property of all elements
pub all_done : {X : Type 0} (P : X → Type 0) (xs : List X) (i : ℕ) → length xs ≤ i → All P (take i xs) → All P xs
all_done P xs i l h = subst (λ ys. All P ys) (take_all i xs l) h

-- a property of mapped elements
pub all_of_map : {X Y : Type 0} (P : Y → Type 0) (f : X → Y) (xs : List X) → All P (map f xs) → All (λ x. P (f x)) xs
all_of_map P f xs h = λ k d l. subst P (get_or-map f xs k d (f d) l)
    (h k (f d) (let e = length-map xs f in omega (arith, e, l)))

-- what is made of each is what another function gives
pub mapped_more : {X Y Z : Type 0} (view : X → Z) (f : Y → Z) (old new : List X) (x : X) (ys : List Y) (i : ℕ) (y : Y) →
    i < length ys →
    y ≡ slice_index_or ys i y →
    new ≡ old ++ x ∷ [] → view x ≡ f y → map view old ≡ map f (take i ys) → map view new ≡ map f (take (i + 1) ys)
mapped_more view f old new x ys i y l e pushed is h =
    ap (map view) pushed ∙ map-append view old (x ∷ []) ∙ ap (λ zs. zs ++ view x ∷ []) h ∙
    ap (λ z. map f (take i ys) ++ z ∷ []) is
    ∙ sym (ap (map f) (taken_at ys i y l e) ∙ map-append f (take i ys) (y ∷ []))

-- false is not true
pub no_truth : false ≡ true → ⊥
no_truth e = cc

-- a count that is there is within its bound
pub counted : (o : Option ℕ) (P : Type 0) (v : ℕ) → SomeIff o P v → is_some o ≡ true → P
counted (Some x) P v s e = s.0
counted None P v s e = absurd (no_truth e)
