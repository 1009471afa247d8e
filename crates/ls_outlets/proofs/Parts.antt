-- What several writes add.
use Rattle.std.proofs.Common.{◌≡◌, ◌∙◌, ◌+◌, ℕ, zero, suc, List, [], ◌∷◌, ◌++◌, take, drop, refl, sym, ap, subst}
use Rattle.std.proofs.Common.{arith, Option}
use Rattle.std.proofs.KnownBytes.{Appends-trans}
use Rattle.std.specs.Io.KnownBytes.{Appends}

take_none : (m : ℕ) → take {A = ℕ} m [] ≡ []
take_none zero = refl
take_none (suc m) = refl

take_plus : (n k : ℕ) (xs : List ℕ) → take n xs ++ take k (drop n xs) ≡ take (n + k) xs
take_plus zero k xs = let e : k ≡ 0 + k = omega arith in ap (λ m. take m xs) e
take_plus (suc n) k [] = take_none k ∙ sym (take_none (suc n + k))
take_plus (suc n) k (x ∷ xs) =
    let e : suc (n + k) ≡ suc n + k = omega arith in
    ap (λ ys. x ∷ ys) (take_plus n k xs) ∙ ap (λ m. take m (x ∷ xs)) e

pub appends_more : (a b c : Option (List ℕ)) (n k : ℕ) (xs part : List ℕ) →
    part ≡ drop n xs →
    Appends a b (take n xs) →
    Appends b c (take k part) →
    Appends a c (take (n + k) xs)
appends_more a b c n k xs part e h g =
    subst (Appends a c) (take_plus n k xs) (Appends-trans a b c (take n xs) (take k (drop n xs)) h
    (subst (λ p. Appends b c (take k p)) e g))
