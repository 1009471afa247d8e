-- A number in three parts: how often all choices of the setup and of the threads fit into it, and the rest of each.
use Rattle.std.proofs.Common.{◌≡◌, ◌∙◌, ◌⊎◌, inl, inr, ◌+◌, ◌*◌, ◌/◌, ◌%◌, ◌^◌, ◌<◌, ◌≤◌, ℕ, zero, suc, sym, ap}
use Rattle.std.proofs.Common.{arith}
use Rattle.std.proofs.Math.Nat.{mul-le-mul, mul-le-mul_right, pow-suc, pow-zero}
use Rattle.std.proofs.lemmas.Nat.{div-add-mod', div-mul-add, div_below, mod-mul-add, mod_below}

pub power_some : (m n : ℕ) → 0 < m → 0 < m ^ n
power_some m zero some = omega (arith, pow-zero m)
power_some m (suc n) some =
    let before : 1 ≤ m ^ n = omega (arith, power_some m n some) in
    let one : 1 ≤ m = omega (arith, some) in
    let scaled = mul-le-mul before one in
    omega (arith, pow-suc m n, scaled)

-- the first part is less than how often they fit into all
pub first_below : (a u t r : ℕ) → 0 < u → 0 < t → r < a * u * t → r / t / u < a
first_below a u t r some these below = div_below (r / t) u a some (div_below r t (a * u) these below)

-- a number with these three parts
pub record IsParted (a u t x i j r : ℕ) : Type 0 where
  pub below : r < a * u * t
  pub first : r / t / u ≡ x
  pub second : r / t % u ≡ i
  pub third : r % t ≡ j

-- three parts make one
pub have_parts : (a u t x i j : ℕ) → x < a → i < u → j < t → (r : ℕ) × IsParted a u t x i j r
have_parts a u t x i j one two three =
    let over : ((x * u + i) * t + j) / t ≡ x * u + i = div-mul-add (x * u + i) t j three in
    let more : x + 1 ≤ a = omega (arith, one) in
    let scaled : (x + 1) * u ≤ a * u = mul-le-mul_right u more in
    let once : (x + 1) * u ≡ x * u + u = omega arith in
    let upper : x * u + i + 1 ≤ a * u = omega (arith, scaled, once, two) in
    let all : (x * u + i + 1) * t ≤ a * u * t = mul-le-mul_right t upper in
    let last : (x * u + i + 1) * t ≡ (x * u + i) * t + t = omega arith in (
      (x * u + i) * t + j,
      record {
        below = omega (arith, all, last, three);
        first = ap (λ k. k / u) over ∙ div-mul-add x u i two;
        second = ap (λ k. k % u) over ∙ mod-mul-add x u i two;
        third = mod-mul-add (x * u + i) t j three;
      },
    )

-- numbers are the same by a quotient and a rest
joined : (m r s : ℕ) → r / m ≡ s / m → r % m ≡ s % m → r ≡ s
joined m r s times rest =
    sym (div-add-mod' r m) ∙ ap (λ k. k * m + r % m) times ∙ ap (λ k. s / m * m + k) rest ∙ div-add-mod' s m

-- with the same parts they are one number
pub same_number : (u t r s : ℕ) → r / t / u ≡ s / t / u → r / t % u ≡ s / t % u → r % t ≡ s % t → r ≡ s
same_number u t r s first second third = joined t r s (joined u (r / t) (s / t) first second) third

-- a greater rest of the same quotient is that of a greater number
more_rest : (m r s : ℕ) → r / m ≡ s / m → s % m < r % m → s < r
more_rest m r s times rest =
    let scaled : r / m * m ≡ s / m * m = ap (λ k. k * m) times in
    omega (arith, scaled, div-add-mod' r m, div-add-mod' s m, rest)

more_times : (m r s : ℕ) → 0 < m → s / m < r / m → s < r
more_times m r s some times =
    let less : s / m + 1 ≤ r / m = omega (arith, times) in
    let scaled : (s / m + 1) * m ≤ r / m * m = mul-le-mul_right m less in
    let one : (s / m + 1) * m ≡ s / m * m + m = omega arith in
    omega (arith, scaled, one, div-add-mod' r m, div-add-mod' s m, mod_below s m some)

-- with the same first part, the number whose other parts are greater is the greater
pub less_number : (u t r s : ℕ) → 0 < t → r / t / u ≡ s / t / u →
    (s / t % u < r / t % u) ⊎ ((s / t % u ≡ r / t % u) × (s % t < r % t)) → s < r
less_number u t r s some first (inl second) = more_times t r s some (more_rest u (r / t) (s / t) first second)
less_number u t r s some first (inr third) = more_rest t r s (joined u (r / t) (s / t) first (sym third.0)) third.1
