-- The value of digits, while it is counted.
use Rattle.std.proofs.Common.{◌≡◌, ℕ, suc, ◌+◌, ◌-◌, ◌<◌, ◌≤◌, true, false, List, [], ◌∷◌, length, drop, get_or, refl}
use Rattle.std.proofs.Common.{ap, ◌∙◌, arith, drop-cons}
use Rattle.std.specs.Prelude.{nat_le, ◌*◌}
use Rattle.std.proofs.lemmas.Bool.{lt-leb, le-leb}
use Rattle.std.proofs.lemmas.List.{drop_all}
use Rattle.ls_lexer.specs.Numbers.{value_of}

value_over : (acc : ℕ) (bs : List ℕ) → acc ≤ value_of acc bs
value_over acc [] = omega arith
value_over acc (b ∷ bs) = omega (arith, value_over (10 * acc + (b - 48)) bs)

-- the value of the first digits
pub record Valued (xs : List ℕ) (i value : ℕ) : Type 0 where
  pub same : value_of 0 xs ≡ value_of value (drop i xs)
  pub low : value ≤ 2147483648

-- no digits have the value 0
pub value_first : (xs : List ℕ) → Valued xs 0 0
value_first xs = record { same = refl; low = omega arith }

valued_step : (xs : List ℕ) (i value : ℕ) →
    value_of 0 xs ≡ value_of value (drop i xs) →
    i < length xs →
    value_of 0 xs ≡ value_of (10 * value + (get_or xs i 0 - 48)) (drop (i + 1) xs)
valued_step xs i value same lt =
    let next : suc i ≡ i + 1 = omega arith in
    let here : drop i xs ≡ get_or xs i 0 ∷ drop (i + 1) xs =
    drop-cons xs i 0 lt ∙ ap (λ (k : ℕ). get_or xs i 0 ∷ drop k xs) next in
    same ∙ rw here refl

-- one more digit, if the value stays small
pub value_more : {xs : List ℕ} {i value : ℕ} (value' : ℕ) →
    Valued xs i value →
    i < length xs →
    value' ≡ value * 10 + (get_or xs i 0 - 48) →
    value' ≤ 2147483648 →
    Valued xs (i + 1) value'
value_more {xs} {i} {value} value' v lt e le =
    let k : 10 * value + (get_or xs i 0 - 48) ≡ value' = omega arith in
    record { same = valued_step xs i value v.same lt ∙ ap (λ (n : ℕ). value_of n (drop (i + 1) xs)) k; low = le }

-- if one more digit makes the value too large, the whole value is too large
pub value_grows : {xs : List ℕ} {i value : ℕ} (value' : ℕ) →
    Valued xs i value →
    i < length xs →
    value' ≡ value * 10 + (get_or xs i 0 - 48) →
    2147483648 < value' →
    nat_le (value_of 0 xs) 2147483648 ≡ false
value_grows {xs} {i} {value} value' v lt e gt =
    let k : 10 * value + (get_or xs i 0 - 48) ≡ value' = omega arith in
    lt-leb _ _ (omega (
      arith,
      valued_step xs i value v.same lt,
      value_over (10 * value + (get_or xs i 0 - 48)) (drop (i + 1) xs),
    ))

-- after all digits the value is small
pub value_done : {xs : List ℕ} {i value : ℕ} →
    Valued xs i value →
    length xs ≤ i →
    nat_le (value_of 0 xs) 2147483648 ≡ true
value_done {xs} {i} {value} v le =
    let none : drop i xs ≡ [] = drop_all i xs le in
    let is : value_of 0 xs ≡ value = v.same ∙ rw none refl in
    le-leb _ _ (omega (arith, is, v.low))
