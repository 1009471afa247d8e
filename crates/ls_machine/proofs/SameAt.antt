-- Lists that show the same show the same at each place.
use Rattle.std.proofs.Common.{◌≡◌, ℕ, zero, suc, ◌<◌, List, [], ◌∷◌, length, map, get_or, arith}

pub same_at : {A B : Type 0} (f : A → B) (xs ys : List A) (i : ℕ) (d e : A) →
    map f xs ≡ map f ys →
    i < length xs →
    i < length ys →
    f (get_or xs i d) ≡ f (get_or ys i e)
same_at f [] ys i d e h hx hy = absurd (omega arith)
same_at f (x ∷ xs) [] i d e h hx hy = absurd (omega arith)
same_at f (x ∷ xs) (y ∷ ys) zero d e h hx hy = cc
same_at f (x ∷ xs) (y ∷ ys) (suc i) d e h hx hy = let tails : map f xs ≡ map f ys = cc in
    same_at f xs ys i d e tails (omega arith) (omega arith)
