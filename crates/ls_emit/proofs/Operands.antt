-- Arguments on the operands: they lie in reverse.
use Rattle.std.proofs.Common.{◌≡◌, ℕ, ◌-◌, List, [], ◌∷◌, ◌++◌, length, reverse, take, drop, Some, refl, sym, ap, ◌∙◌}
use Rattle.std.proofs.Common.{subst, arith, slice_get, append_assoc}
use Rattle.std.proofs.lemmas.List.{reverse-reverse, length-reverse}
use mathlib.Core.List.{reverse-cons}

-- one more argument on the operands
pub reversed : (w : ℕ) (ws stack : List ℕ) → reverse ws ++ (w ∷ stack) ≡ reverse (w ∷ ws) ++ stack
reversed w ws stack = sym (ap (λ l. l ++ stack) (reverse-cons w ws) ∙ append_assoc (reverse ws) (w ∷ []) stack)

at_seam : (xs : List ℕ) (y : ℕ) (ys : List ℕ) → slice_get (xs ++ (y ∷ ys)) (length xs) ≡ Some y
at_seam [] y ys = refl
at_seam (x ∷ xs) y ys = at_seam xs y ys

-- the deepest of n arguments is `this`
pub this_at : (this : ℕ) (values stack : List ℕ) (n : ℕ) →
    length (this ∷ values) ≡ n →
    slice_get (reverse (this ∷ values) ++ stack) (n - 1) ≡ Some this
this_at this values stack n e =
    let k : length (reverse values) ≡ n - 1 = omega (arith, length-reverse values, e) in
    ap (λ l. slice_get l (n - 1)) (sym (reversed this values stack))
    ∙ subst (λ m. slice_get (reverse values ++ (this ∷ stack)) m ≡ Some this) k (at_seam (reverse values) this stack)

take_front : (xs ys : List ℕ) → take (length xs) (xs ++ ys) ≡ xs
take_front [] ys = refl
take_front (x ∷ xs) ys = ap (λ l. x ∷ l) (take_front xs ys)

drop_front : (xs ys : List ℕ) → drop (length xs) (xs ++ ys) ≡ ys
drop_front [] ys = refl
drop_front (x ∷ xs) ys = drop_front xs ys

-- the arguments of a call, from its operands
pub arguments_are : (values stack : List ℕ) (n : ℕ) →
    length values ≡ n →
    reverse (take n (reverse values ++ stack)) ≡ values
arguments_are values stack n e =
    let k : length (reverse values) ≡ n = omega (arith, length-reverse values, e) in
    ap reverse (subst (λ m. take m (reverse values ++ stack) ≡ reverse values) k (take_front (reverse values) stack)) ∙
    reverse-reverse values

-- the operands below the arguments of a call
pub without_arguments : (values stack : List ℕ) (n : ℕ) → length values ≡ n → drop n (reverse values ++ stack) ≡ stack
without_arguments values stack n e =
    let k : length (reverse values) ≡ n = omega (arith, length-reverse values, e) in
    subst (λ m. drop m (reverse values ++ stack) ≡ stack) k (drop_front (reverse values) stack)
