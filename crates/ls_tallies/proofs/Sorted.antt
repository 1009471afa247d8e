-- Rows in order, and the rows that they are.
use Rattle.std.proofs.Common.{◌≡◌, ◌∙◌, ◌+◌, ◌<◌, ℕ, zero, suc, Bool, List, [], ◌∷◌, length, get_or, map, refl, ap₂}
use Rattle.std.proofs.Common.{arith, IsSortedBy}
use Rattle.std.proofs.lemmas.List.{length-map}

pub got : {A B : Type 0} (f : A → B) (xs : List A) (k : ℕ) (d : B) (e : A) →
    k < length xs →
    get_or (map f xs) k d ≡ f (get_or xs k e)
got f [] k d e lt = absurd (omega arith)
got f (x ∷ xs) zero d e lt = refl
got f (x ∷ xs) (suc k) d e lt = got f xs k d e (omega arith)

pub within : {A B : Type 0} (f : A → B) (xs : List A) (k : ℕ) → k < length (map f xs) → k < length xs
within f xs k lt = let len = length-map xs f in omega arith

pub sorted_map : {A B : Type 0} (f : A → B) (lt : A → A → Bool) (lt' : B → B → Bool) (xs : List A) →
    ((x y : A) → lt' (f x) (f y) ≡ lt x y) →
    IsSortedBy lt xs →
    IsSortedBy lt' (map f xs)
sorted_map f lt lt' [] same s = λ k d p q. absurd (omega arith)
sorted_map f lt lt' (e ∷ xs) same s = λ k d p q.
    let len = length-map (e ∷ xs) f in
    let a = got f (e ∷ xs) (k + 1) d e (omega arith) in
    let b = got f (e ∷ xs) k d e (omega arith) in
    ap₂ lt' a b ∙ same (get_or (e ∷ xs) (k + 1) e) (get_or (e ∷ xs) k e) ∙ s k e p (omega arith)
