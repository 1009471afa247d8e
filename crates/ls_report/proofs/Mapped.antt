-- Searches in a list of what f makes.
use Rattle.std.proofs.Common.{◌≡◌, ◌∙◌, ap, refl, sym, Bool, true, false, cond, List, [], ◌∷◌, ◌++◌, map, Some}
use Rattle.std.specs.Prelude.{find, option_map, reverse}
use Rattle.std.proofs.lemmas.List.{map-append}
use Rattle.std.proofs.lemmas.Grind.{reverse_onto}

pub find-map : {X Y : Type 0} (p : Y → Bool) (f : X → Y) (xs : List X) →
    find p (map f xs) ≡ option_map f (find (λ x. p (f x)) xs)
find-map p f [] = refl
find-map {X} {Y} p f (x ∷ xs) = go (p (f x)) (find-map p f xs)
  where
    go : (b : Bool) →
        find p (map f xs) ≡ option_map f (find (λ y. p (f y)) xs) →
        cond b (Some (f x)) (find p (map f xs)) ≡ option_map f (cond b (Some x) (find (λ y. p (f y)) xs))
    go true h = refl
    go false h = h

pub reverse-map : {X Y : Type 0} (f : X → Y) (xs : List X) → reverse (map f xs) ≡ map f (reverse xs)
reverse-map f [] = refl
reverse-map f (x ∷ xs) =
    reverse_onto (map f xs) (f x) [] ∙ ap (λ ys. ys ++ f x ∷ []) (reverse-map f xs)
    ∙ sym (map-append f (reverse xs) (x ∷ [])) ∙ ap (map f) (sym (reverse_onto xs x []))

-- the last of mapped items that passes
pub last-map : {X Y : Type 0} (p : Y → Bool) (f : X → Y) (xs : List X) →
    find p (reverse (map f xs)) ≡ option_map f (find (λ x. p (f x)) (reverse xs))
last-map p f xs = ap (find p) (reverse-map f xs) ∙ find-map p f (reverse xs)
