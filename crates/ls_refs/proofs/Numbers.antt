-- Ints, booleans and pairs in words.
use Rattle.std.proofs.Common.{rules, ◌≡◌, ℕ, ◌+◌, ◌*◌, ◌/◌, ◌%◌, ◌<◌, ◌^◌, Bool, true, false, refl, sym, ap, ◌∙◌, subst}
use Rattle.std.proofs.Common.{arith}
use Rattle.std.proofs.lemmas.Grind.{common_steps}
use Rattle.std.specs.Prelude.{ℤ, pos, ◌+ℤ◌, ◌-ℤ◌, ◌*ℤ◌, neg_ℤ, int_div, int_rem, int_lt, int_le, nat_eq, FitsSigned}
use mir.Syntax.{w32}
use Rattle.std.specs.Int.{int_wrap, int_wrapping_add, int_wrapping_sub, int_wrapping_mul, int_wrapping_neg}
use Rattle.std.specs.Int.{int_wrapping_div, cast_signed, cast_unsigned}
use Rattle.std.specs.Ordering.{int_eq}
use Rattle.std.proofs.lemmas.Int.{to_z-of_z, wrapping_add_is, wrapping_sub_is, wrapping_mul_is, wrapping_neg_is}
use Rattle.std.proofs.lemmas.Int.{int_wrap_fits}
use lib.Signed.{mag_rem}
use Rattle.std.proofs.Math.Facts.{Fits-of_z}
use borrow.Author.Differences.{fits_in, read_fits}
use Rattle.ls_lowered.specs.Words as words

-- a number below 2^32 is its own remainder
pub below : (n : ℕ) → n < 2 ^ 32 → n % 2 ^ 32 ≡ n
below n l = omega (arith, l)

-- an int is read back from its word
pub int_back : (z : ℤ) → FitsSigned w32 z → words.int_of (words.word_of z) ≡ z
int_back z f = ap (λ n. cast_signed w32 n) (below (cast_unsigned w32 z) (Fits-of_z f).fits) ∙ to_z-of_z w32 z f

-- the word of a sum
pub sum_is : (x y : ℤ) →
    FitsSigned w32 x →
    FitsSigned w32 y →
    words.sum_word (words.word_of x) (words.word_of y) ≡ words.word_of (int_wrap w32 (x +ℤ y))
sum_is x y f g = ap (λ a. words.word_of (int_wrapping_add w32 a (words.int_of (words.word_of y)))) (int_back x f) ∙
    ap (λ b. words.word_of (int_wrapping_add w32 x b)) (int_back y g) ∙ ap words.word_of (wrapping_add_is w32 x y f g)

-- the word of a difference
pub difference_is : (x y : ℤ) →
    FitsSigned w32 x →
    FitsSigned w32 y →
    words.difference_word (words.word_of x) (words.word_of y) ≡ words.word_of (int_wrap w32 (x -ℤ y))
difference_is x y f g = ap (λ a. words.word_of (int_wrapping_sub w32 a (words.int_of (words.word_of y)))) (int_back x f)
    ∙ ap (λ b. words.word_of (int_wrapping_sub w32 x b)) (int_back y g) ∙ ap words.word_of (wrapping_sub_is w32 x y f g)

-- the word of a product
pub product_is : (x y : ℤ) →
    FitsSigned w32 x →
    FitsSigned w32 y →
    words.product_word (words.word_of x) (words.word_of y) ≡ words.word_of (int_wrap w32 (x *ℤ y))
product_is x y f g = ap (λ a. words.word_of (int_wrapping_mul w32 a (words.int_of (words.word_of y)))) (int_back x f) ∙
    ap (λ b. words.word_of (int_wrapping_mul w32 x b)) (int_back y g) ∙ ap words.word_of (wrapping_mul_is w32 x y f g)

-- the word of a quotient
pub quotient_is : (x y : ℤ) →
    FitsSigned w32 x →
    FitsSigned w32 y →
    words.quotient_word (words.word_of x) (words.word_of y) ≡ words.word_of (int_wrapping_div w32 x y)
quotient_is x y f g = ap (λ a. words.word_of (int_wrapping_div w32 a (words.int_of (words.word_of y)))) (int_back x f) ∙
    ap (λ b. words.word_of (int_wrapping_div w32 x b)) (int_back y g)

-- a remainder of ints is one
pub rem_fits : (x y : ℤ) → FitsSigned w32 x → FitsSigned w32 (int_rem x y)
rem_fits x y f = record { sfits = omega (arith, mag_rem x y, f.sfits) }

-- the word of a remainder
pub remainder_is : (x y : ℤ) →
    FitsSigned w32 x →
    FitsSigned w32 y →
    words.remainder_word (words.word_of x) (words.word_of y) ≡ words.word_of (int_wrap w32 (int_rem x y))
remainder_is x y f g = ap (λ a. words.word_of (int_rem a (words.int_of (words.word_of y)))) (int_back x f) ∙
    ap (λ b. words.word_of (int_rem x b)) (int_back y g) ∙ ap words.word_of
    (sym (int_wrap_fits w32 (int_rem x y) (rem_fits x y f)))

-- the word of a negation
pub negative_is : (x : ℤ) →
    FitsSigned w32 x →
    words.negative_word (words.word_of x) ≡ words.word_of (int_wrap w32 (neg_ℤ x))
negative_is x f = ap (λ a. words.word_of (int_wrapping_neg w32 a)) (int_back x f) ∙
    ap words.word_of (wrapping_neg_is w32 x f)

-- the words of numbers compare as the numbers: less
pub less_is : (x y : ℤ) →
    FitsSigned w32 x →
    FitsSigned w32 y →
    words.less_word (words.word_of x) (words.word_of y) ≡ words.bool_word (int_lt x y)
less_is x y f g = ap (λ a. words.bool_word (int_lt a (words.int_of (words.word_of y)))) (int_back x f) ∙
    ap (λ b. words.bool_word (int_lt x b)) (int_back y g)

-- the words of numbers compare as the numbers: at most
pub at_most_is : (x y : ℤ) →
    FitsSigned w32 x →
    FitsSigned w32 y →
    words.at_most_word (words.word_of x) (words.word_of y) ≡ words.bool_word (int_le x y)
at_most_is x y f g = ap (λ a. words.bool_word (int_le a (words.int_of (words.word_of y)))) (int_back x f) ∙
    ap (λ b. words.bool_word (int_le x b)) (int_back y g)

-- a quotient fits an int
pub div_fits : (x y : ℤ) → FitsSigned w32 (int_wrapping_div w32 x y)
div_fits x y = omega (arith, fits_in, read_fits w32 (cast_unsigned w32 (int_div x y)))

same_bool : (a b : Bool) → (a ≡ true → b ≡ true) → (b ≡ true → a ≡ true) → a ≡ b
same_bool true true f g = refl
same_bool false false f g = refl
same_bool true false f g = sym (f refl)
same_bool false true f g = g refl

word_eq : (x y : ℤ) → FitsSigned w32 x → FitsSigned w32 y → nat_eq (words.word_of x) (words.word_of y) ≡ int_eq x y
word_eq x y h g = same_bool (nat_eq (words.word_of x) (words.word_of y)) (int_eq x y)
    (λ e. let k : words.word_of x ≡ words.word_of y = grind (arith, common_steps, e) in
    let j : x ≡ y = sym (to_z-of_z w32 x h) ∙ ap (cast_signed w32) k ∙ to_z-of_z w32 y g in
    subst (λ z. int_eq x z ≡ true) j (grind (arith, common_steps)))
    (λ e. let j : x ≡ y = grind (arith, common_steps, e) in subst
    (λ z. nat_eq (words.word_of x) (words.word_of z) ≡ true) j (grind (arith, common_steps)))

-- numbers are equal exactly if their words are
pub same_ints : (x y : ℤ) →
    FitsSigned w32 x →
    FitsSigned w32 y →
    words.same_word (words.word_of x) (words.word_of y) ≡ words.bool_word (int_eq x y)
same_ints x y f g = ap words.bool_word (word_eq x y f g)

-- a divisor is 0 where its word is
pub zero_is : (y : ℤ) → FitsSigned w32 y → nat_eq (words.word_of y % 2 ^ 32) 0 ≡ int_eq y (pos 0)
zero_is y f = ap (λ n. nat_eq n 0) (below (words.word_of y) (Fits-of_z f).fits) ∙ word_eq y (pos 0) f (search rules)

pub pair_is : (n : ℕ) (b : Bool) → n < 2 ^ 32 → words.pair_word n (words.bool_word b) ≡ 2 * n + words.bool_word b
pair_is n true l = omega (arith, l)
pair_is n false l = omega (arith, l)

-- half of the word of a pair is its reference
pub half_is : (n : ℕ) (b : Bool) → n < 2 ^ 32 → words.pair_word n (words.bool_word b) / 2 ≡ n
half_is n true l = let e = pair_is n true l in omega (arith, e)
half_is n false l = let e = pair_is n false l in omega (arith, e)

-- the lowest bit of the word of a pair is its mark
pub odd_is : (n : ℕ) (b : Bool) → n < 2 ^ 32 → words.pair_word n (words.bool_word b) % 2 ≡ words.bool_word b
odd_is n true l = let e = pair_is n true l in omega (arith, e)
odd_is n false l = let e = pair_is n false l in omega (arith, e)
