-- What is refused stays so.
use Rattle.std.proofs.Common.{◌≡◌, ◌⊎◌, inl, inr, ℕ, zero, suc, ◌+◌, ◌*◌, ◌<◌, ◌≤◌, ap, arith}
use Rattle.std.specs.Prelude.{min}
use Rattle.ls_linker.specs.declared.count_fault.CountFault.{CountFault}
use Rattle.ls_linker.specs.declared.count_fault.CountFault.TheVariants.{Memory, TooManyCopies, TooLong}
use Rattle.ls_linker.specs.declared.count_fault.CountFault.TheVariants.{TooLongTogether}
use Rattle.ls_linker.specs.Refused.{TooMany}
use Rattle.ls_linker.proofs.Products.{two_more}

-- with more copies
pub too_many_more : (e : CountFault) (m n : ℕ) → TooMany e m → m ≤ n → TooMany e n
too_many_more Memory m n h l = tt
too_many_more TooManyCopies m n h l = omega (arith, h, l)
too_many_more TooLong m n h l = h
too_many_more TooLongTogether m n h l = h

le_or_gt : (a b : ℕ) → (a ≤ b) ⊎ (b < a)
le_or_gt zero b = inl (omega arith)
le_or_gt (suc a) zero = inr (omega arith)
le_or_gt (suc a) (suc b) = more (le_or_gt a b)
  where
    more : (a ≤ b) ⊎ (b < a) → (suc a ≤ suc b) ⊎ (suc b < suc a)
    more (inl le) = inl (omega (arith, le))
    more (inr gt) = inr (omega (arith, gt))

-- copies of a finally block whose length is counted up to a bound
pub capped : (a n f r : ℕ) →
    min (min a 65537 + (2 + n) * (min f 65537 + 2) + 2 * r + 4) 65537 ≡ min (a + (2 + n) * (f + 2) + 2 * r + 4) 65537
capped a n f r = by_length (le_or_gt f 65537)
  where
    by_length : (f ≤ 65537) ⊎ (65537 < f) →
        min (min a 65537 + (2 + n) * (min f 65537 + 2) + 2 * r + 4) 65537 ≡ min (a + (2 + n) * (f + 2) + 2 * r + 4)
        65537
    by_length (inl le) =
        let same : min f 65537 ≡ f = omega (arith, le) in
        let times = ap (λ x. (2 + n) * (x + 2)) same in
        omega (arith, times)
    by_length (inr gt) = omega (arith, gt, two_more n (min f 65537 + 2), two_more n (f + 2))

pub capped_at_most : (n : ℕ) → min n 65537 ≤ 65537
capped_at_most n = omega arith

-- what is counted after the first of two parts, and once no part is left
pub sum_moved : (n a b : ℕ) {m : ℕ} → m ≡ n + a → m + b ≡ n + (a + b)
sum_moved n a b e = omega (arith, e)

pub capped_moved : (n a b : ℕ) {m : ℕ} → m ≡ min (n + a) 65537 → min (m + b) 65537 ≡ min (n + (a + b)) 65537
capped_moved n a b e = omega (arith, e)

pub sum_ended : (n : ℕ) {m : ℕ} → n + 0 ≡ m → n ≡ m
sum_ended n e = omega (arith, e)

pub capped_ended : (n m : ℕ) → n ≤ 65537 → min (n + 0) 65537 ≡ min m 65537 → n ≡ min m 65537
capped_ended n m l e = omega (arith, l, e)

-- one of two parts is no more than both
pub within : (n a b : ℕ) {m : ℕ} → n + (a + b) ≡ m → n + a ≤ m
within n a b e = omega (arith, e)
