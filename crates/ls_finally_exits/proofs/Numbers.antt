-- Numbers inside of a statement and beyond it.
use Rattle.std.proofs.Common.{◌≡◌, ℕ, zero, suc, ◌-◌, ◌<◌, ◌≤◌, Some, None, refl, ap, ◌∙◌, arith}
use Rattle.ls_finally_exits.specs.Exits.{outward}

pub is_inside : (l n : ℕ) → n < l → outward l n ≡ None
is_inside zero n h = absurd (let z : ⊥ = omega arith in z)
is_inside (suc l) zero h = refl
is_inside (suc l) (suc n) h = is_inside l n (omega arith)

pub is_beyond : (l n : ℕ) → l ≤ n → outward l n ≡ Some (n - l)
is_beyond zero n h = let e : n ≡ n - 0 = omega arith in ap (λ (m : ℕ). Some m) e
is_beyond (suc l) zero h = absurd (let z : ⊥ = omega arith in z)
is_beyond (suc l) (suc n) h = let e : n - l ≡ suc n - suc l = omega arith in is_beyond l n (omega arith) ∙
    ap (λ (m : ℕ). Some m) e
