-- Products of numbers.
use Rattle.std.proofs.Common.{◌≡◌, ℕ, zero, suc, ◌+◌, ◌*◌, refl, ap, ◌∙◌, arith}

-- a number times 2 more than n
pub two_more : (n f : ℕ) → (2 + n) * f ≡ f + f + n * f
two_more n f = omega arith

-- a product of a sum
pub distribute : (n a b : ℕ) → n * (a + b) ≡ n * a + n * b
distribute zero a b = omega arith
distribute (suc n) a b = omega (arith, distribute n a b)

-- a product with 0
pub nothing : (n : ℕ) → n * 0 ≡ 0
nothing zero = refl
nothing (suc n) = omega (arith, nothing n)

-- two products of equal numbers
pub products : (a b c d : ℕ) → a ≡ b → c ≡ d → (2 + a) * c ≡ (2 + b) * d
products a b c d e f = ap (λ n. (2 + n) * c) e ∙ ap (λ n. (2 + b) * n) f
