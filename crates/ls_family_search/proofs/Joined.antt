-- Lists of outcomes, cut at one of them, and what they say of numbers.
use Rattle.std.proofs.Common.{◌≡◌, ◌∙◌, ◌<◌, List, [], ◌∷◌, ◌++◌, ap, sym}
use Rattle.std.proofs.Common.{arith, get_or, length, take, map}

head_is : {X : Type 0} {a b : X} {xs ys : List X} → a ∷ xs ≡ b ∷ ys → a ≡ b
head_is e = cc

tail_is : {X : Type 0} {a b : X} {xs ys : List X} → a ∷ xs ≡ b ∷ ys → xs ≡ ys
tail_is e = cc

-- a list up to a place, and from there on
pub cut_at : {X : Type 0} (all front : List X) (x : X) → map (λ y. y) front ≡ take (length front) all →
    length front < length all → x ≡ get_or all (length front) x →
    (rest : List X) × (all ≡ front ++ x ∷ rest)
cut_at [] front x begins within is = absurd (omega (arith, within))
cut_at (y ∷ all) [] x begins within is = (all, ap (λ z. z ∷ all) (sym is))
cut_at (y ∷ all) (z ∷ front) x begins within is =
    let later = cut_at all front x (tail_is begins) (omega (arith, within)) is in
    (later.0, ap (λ w. w ∷ all) (sym (head_is begins)) ∙ ap (λ l. z ∷ l) later.1)
