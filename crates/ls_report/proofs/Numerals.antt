-- Numbers and ints are read if they are written as they are printed.
use Rattle.std.proofs.Common.{◌≡◌, ◌∙◌, ◌<◌, ◌^◌, ◌==◌, ℕ, ℤ, pos, negsuc, zero, suc, FitsSigned, Bool, true, false}
use Rattle.std.proofs.Common.{cond, not, List, [], ◌∷◌, length, get_or, drop, refl, sym, ap, subst, arith, eqb-true}
use Rattle.std.proofs.Common.{eq-eqb, Result, Ok, Err}
use Rattle.std.specs.Prelude.{IfSome}
use Rattle.std.specs.Int.{w32}
use Rattle.std.specs.Result.{result_ok}
use Rattle.std.specs.Fmt.{decimal, signed_decimal}
use Rattle.std.specs.Str.Parse.{AllDigits, IsNumeral, ParsesSigned, ParsesUnsigned, digits_value, without_leading_plus}
use Rattle.std.proofs.lemmas.Bool.{and_from, and_parts, both_ways, ne_eqb, not-true, true≢false}
use Rattle.std.proofs.lemmas.Fmt.{decimal-digits_value, decimal_digit, first_decimal}
use Rattle.std.proofs.lemmas.Str.Parse.{IsNumeralModel, numerals_by_value, tells_digits}
use lib.IntN.{neg_ℤ}
use Rattle.ls_report.specs.Events.{Text}
use Rattle.ls_report.specs.LineReading.{has_no_zero, is_plain, is_plain_int}

own : IsNumeralModel (AllDigits 10) (digits_value 10)
own = numerals_by_value (AllDigits 10) tells_digits

-- digits without a zero in front are printed of their value
digits_exact : (ds : Text) →
    IsNumeral 10 ds →
    (get_or ds 0 0 ≡ 48 → length ds ≡ 1) →
    digits_value 10 ds < 2 ^ 64 →
    ds ≡ decimal (digits_value 10 ds)
digits_exact ds h lead small = sym (decimal-digits_value own ds h.1 h.0 lead small)

isnt : (b c : ℕ) → not (b == c) ≡ true → b ≡ c → ⊥
isnt b c h e = both_ways (b == c) (not-true (b == c) h) (eq-eqb b c e)

lead_plain : (bs : Text) → is_plain bs ≡ true → get_or bs 0 0 ≡ 48 → length bs ≡ 1
lead_plain [] p e = absurd (omega arith)
lead_plain (b ∷ []) p e = refl
lead_plain (b ∷ c ∷ bs) p e = absurd (isnt b 48 (and_parts (not (b == 48)) (not (b == 43)) p).0 e)

lead_no_zero : (bs : Text) → has_no_zero bs ≡ true → get_or bs 0 0 ≡ 48 → length bs ≡ 1
lead_no_zero [] p e = absurd (omega arith)
lead_no_zero (b ∷ bs) p e = absurd (isnt b 48 p e)

-- a plain text that is read as digits has no plus
no_plus : (bs : Text) → is_plain bs ≡ true → 0 < length (without_leading_plus bs) → without_leading_plus bs ≡ bs
no_plus [] p some = refl
no_plus (b ∷ []) p some = go (b == 43) some
  where
    go : (t : Bool) → 0 < length (drop (cond t 1 0) (b ∷ [])) → drop (cond t 1 0) (b ∷ []) ≡ b ∷ []
    go true k = absurd (omega arith)
    go false k = refl
no_plus (b ∷ c ∷ bs) p some = go (b == 43) refl
  where
    go : (t : Bool) → (b == 43) ≡ t → drop (cond t 1 0) (b ∷ c ∷ bs) ≡ b ∷ c ∷ bs
    go true e = absurd (isnt b 43 (and_parts (not (b == 48)) (not (b == 43)) p).1 (eqb-true b 43 e))
    go false e = refl

plain_exact : (bs : Text) →
    is_plain bs ≡ true →
    IsNumeral 10 (without_leading_plus bs) →
    digits_value 10 (without_leading_plus bs) < 2 ^ 64
    → bs ≡ decimal (digits_value 10 (without_leading_plus bs))
plain_exact bs p h small =
    let plus = no_plus bs p h.0 in
    digits_exact bs (subst (IsNumeral 10) plus h) (lead_plain bs p)
    (subst (λ ds. digits_value 10 ds < 2 ^ 64) plus small)
    ∙ ap (λ ds. decimal (digits_value 10 ds)) (sym plus)

-- a plain text is printed of the number that is read of it
pub number_exact : {E : Type 0} (bs : Text) (r : Result ℕ E) →
    is_plain bs ≡ true →
    ParsesUnsigned 64 10 bs r →
    IfSome (result_ok r) (λ n. bs ≡ decimal n)
number_exact bs (Err e) p h = tt
number_exact bs (Ok n) p h = plain_exact bs p h.0.0 h.0.1 ∙ ap decimal (sym h.1)

negative : (bs : Text) (z : ℤ) (v : ℕ) →
    v ≡ digits_value 10 bs →
    FitsSigned w32 (neg_ℤ (pos v)) →
    IsNumeral 10 bs →
    has_no_zero bs ≡ true →
    z ≡ neg_ℤ (pos v)
    → 45 ∷ bs ≡ signed_decimal z
negative bs z zero same fits h p is =
    let text : bs ≡ decimal 0 = digits_exact bs h (lead_no_zero bs p) (omega arith) ∙ ap decimal (sym same) in
    absurd (true≢false (sym p ∙ ap has_no_zero (text ∙ decimal_digit 0 (omega arith))))
negative bs z (suc m) same fits h p is =
    let text : bs ≡ decimal (suc m) = digits_exact bs h (lead_no_zero bs p) (omega arith) ∙ ap decimal (sym same) in
    ap (λ ds. 45 ∷ ds) text ∙ ap signed_decimal (sym is)

small_value : (v : ℕ) → FitsSigned w32 (pos v) → v < 2 ^ 64
small_value v fits = omega arith

positive : (bs : Text) (z : ℤ) →
    is_plain bs ≡ true →
    IsNumeral 10 (without_leading_plus bs) →
    FitsSigned w32 (pos (digits_value 10 (without_leading_plus bs)))
    → z ≡ pos (digits_value 10 (without_leading_plus bs)) → bs ≡ signed_decimal z
positive bs z p h fits is = plain_exact bs p h (small_value (digits_value 10 (without_leading_plus bs)) fits) ∙
    ap signed_decimal (sym is)

-- the digits after a first byte that may be a minus
abbrev digits : ℕ → Text → Bool → Text
digits b bs t = cond t bs (without_leading_plus (b ∷ bs))

abbrev value : ℕ → Text → Bool → ℤ
value b bs t = cond t (neg_ℤ (pos (digits_value 10 (digits b bs t)))) (pos (digits_value 10 (digits b bs t)))

signed : (b : ℕ) (bs : Text) (z : ℤ) (t : Bool) →
    (b == 45) ≡ t →
    cond t (has_no_zero bs) (is_plain (b ∷ bs)) ≡ true →
    IsNumeral 10 (digits b bs t)
    → FitsSigned w32 (value b bs t) → z ≡ value b bs t → b ∷ bs ≡ signed_decimal z
signed b bs z true e p h fits is = ap (λ c. c ∷ bs) (eqb-true b 45 e) ∙
    negative bs z (digits_value 10 bs) refl fits h p is
signed b bs z false e p h fits is = positive (b ∷ bs) z p h fits is

-- the same of an int
pub int_exact : {E : Type 0} (bs : Text) (r : Result ℤ E) →
    is_plain_int bs ≡ true →
    ParsesSigned w32 10 bs r →
    IfSome (result_ok r) (λ z. bs ≡ signed_decimal z)
int_exact bs (Err e) p h = tt
int_exact [] (Ok z) p h = absurd (omega (arith, h.0.0.0))
int_exact (b ∷ bs) (Ok z) p h = signed b bs z (b == 45) refl p h.0.0 h.0.1 h.1

-- ---- what is printed is plain

apart : (b c : ℕ) → c < b → not (b == c) ≡ true
apart b c h = rw (ne_eqb b c (λ e. omega arith)) refl

plain_high : (bs : Text) → 48 < get_or bs 0 0 → is_plain bs ≡ true
plain_high [] h = refl
plain_high (b ∷ []) h = refl
plain_high (b ∷ c ∷ bs) h = and_from (not (b == 48)) (not (b == 43)) (apart b 48 h) (apart b 43 (omega arith))

no_zero_high : (bs : Text) → 48 < get_or bs 0 0 → has_no_zero bs ≡ true
no_zero_high [] h = refl
no_zero_high (b ∷ bs) h = apart b 48 h

int_high : (bs : Text) → 48 < get_or bs 0 0 → is_plain_int bs ≡ true
int_high [] h = refl
int_high (b ∷ bs) h = rw (ne_eqb b 45 (λ e. omega arith)) (plain_high (b ∷ bs) h)

-- a number's text is plain
pub plain_decimal : (n : ℕ) → n < 2 ^ 64 → is_plain (decimal n) ≡ true
plain_decimal zero fits = ap is_plain (decimal_digit 0 (omega arith))
plain_decimal (suc n) fits = plain_high (decimal (suc n)) (first_decimal (suc n) (omega arith) fits)

-- an int's text is plain
pub plain_signed : (z : ℤ) → FitsSigned w32 z → is_plain_int (signed_decimal z) ≡ true
plain_signed (pos zero) fits = ap is_plain_int (decimal_digit 0 (omega arith))
plain_signed (pos (suc n)) fits = int_high (decimal (suc n)) (first_decimal (suc n) (omega arith) (omega arith))
plain_signed (negsuc m) fits = no_zero_high (decimal (suc m)) (first_decimal (suc m) (omega arith) (omega arith))
