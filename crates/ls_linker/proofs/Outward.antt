-- Numbers inside of a statement and beyond it.
use Rattle.std.proofs.Common.{◌≡◌, ℕ, zero, suc, ◌+◌, ◌<◌, List, [], ◌∷◌, length, Some, None, ap, ◌∙◌, arith}
use Rattle.ls_finally_exits.specs.Exits.{outward, Exit, LeaveOut, ReturnOut, leave_exit}

-- a number that doesn't lead beyond l is below l
pub inward : (l n : ℕ) → outward l n ≡ None → n < l
inward zero n e = absurd (some e)
  where
    some : {n : ℕ} → Some n ≡ None → ⊥
    some e = cc
inward (suc l) zero e = omega arith
inward (suc l) (suc n) e = omega (arith, inward l n e)

-- how many exits lead beyond this many numbers
abbrev pub outs : ℕ → List Exit → ℕ
outs l [] = 0
outs l (LeaveOut n ∷ xs) = length (leave_exit (outward l n)) + outs l xs
outs l (ReturnOut ∷ xs) = 1 + outs l xs

-- beyond some, and then beyond more
pub beyond_both : (m l n : ℕ) → outs l (leave_exit (outward m n)) ≡ length (leave_exit (outward (m + l) n))
beyond_both zero l n =
    let none : l ≡ zero + l = omega arith in
    omega (arith, ap (λ z. length (leave_exit (outward z n))) none)
beyond_both (suc m) l zero =
    let one : suc (m + l) ≡ suc m + l = omega arith in
    ap (λ z. length (leave_exit (outward z zero))) one
beyond_both (suc m) l (suc n) =
    let one : suc (m + l) ≡ suc m + l = omega arith in
    beyond_both m l n ∙ ap (λ z. length (leave_exit (outward z (suc n)))) one
