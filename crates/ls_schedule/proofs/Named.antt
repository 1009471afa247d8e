-- A position in a list of what f makes.
use Rattle.std.proofs.Common.{◌≡◌, ◌∙◌, ◌+◌, ap, refl, suc, Bool, not, cond, List, [], ◌∷◌, length, map, Some, None}
use Rattle.std.specs.Prelude.{nat_lt}
use Rattle.std.specs.List.{position, position_or_len}

place-map : {X Y : Type 0} (p : Y → Bool) (f : X → Y) (xs : List X) →
    position_or_len p (map f xs) ≡ position_or_len (λ x. p (f x)) xs
place-map p f [] = refl
place-map p f (x ∷ xs) = ap (λ n. cond (not (p (f x))) (1 + n) 0) (place-map p f xs)

len-map : {X Y : Type 0} (f : X → Y) (xs : List X) → length (map f xs) ≡ length xs
len-map f [] = refl
len-map f (x ∷ xs) = ap (λ n. suc n) (len-map f xs)

pub position_map : {X Y : Type 0} (p : Y → Bool) (f : X → Y) (xs : List X) →
    position p (map f xs) ≡ position (λ x. p (f x)) xs
position_map p f xs =
    ap (λ n. cond (nat_lt n (length (map f xs))) (Some n) None) (place-map p f xs)
    ∙ ap (λ l. cond (nat_lt (position_or_len (λ x. p (f x)) xs) l) (Some (position_or_len (λ x. p (f x)) xs)) None)
    (len-map f xs)
