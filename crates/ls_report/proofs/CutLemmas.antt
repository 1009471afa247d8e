-- Where a text is cut.
use Rattle.std.proofs.Common.{◌≡◌, ◌∙◌, ◌+◌, ◌<◌, ◌==◌, ◌^◌, ◌%◌, ℕ, ℤ, pos, negsuc, FitsSigned, Bor, zero, suc, Bool}
use Rattle.std.proofs.Common.{true, false, cond, not, List, [], ◌∷◌, ◌++◌, length, get_or, refl, sym, ap, eq-eqb}
use Rattle.std.proofs.Common.{eqb-true, arith, Option, Some, None}
use Rattle.std.specs.Prelude.{Option, option_map}
use Rattle.std.specs.Int.{w32}
use lib.Signed.{mag}
use Rattle.std.specs.List.{list_all}
use Rattle.std.specs.Fmt.{decimal, signed_decimal}
use Rattle.std.proofs.lemmas.Bool.{and_from, and_parts, both_ways, ne_eqb, not-true}
use Rattle.std.proofs.lemmas.Fmt.{decimal_by_steps}
use Rattle.std.proofs.lemmas.Str.Pattern.{IsSplitOnceResult, split_parts}
use Rattle.ls_report.specs.Events.{Text}
use Rattle.ls_report.specs.Cut.{cut}

-- ---- small steps

-- none is not some
pub none_is : {X : Type 0} {x : X} → None ≡ Some x → ⊥
none_is k = cc

-- equal options have equal values
pub some_is : {X : Type 0} {x y : X} → Some x ≡ Some y → x ≡ y
some_is k = cc

-- a text that is cut into two
abbrev pub Two : Type 0
Two = Text × Text

-- a text that is cut in two
abbrev pub two : Text → Text → Option Two
two a b = Some (a, b)

-- the first parts are equal
pub first_of_two : (a b x y : Text) → two a b ≡ two x y → a ≡ x
first_of_two a b x y k = let f : Two → Text = λ p. p.0 in ap f (some_is k)

-- the second parts are equal
pub second_of_two : (a b x y : Text) → two a b ≡ two x y → b ≡ y
second_of_two a b x y k = let f : Two → Text = λ p. p.1 in ap f (some_is k)

-- no byte of the text is b
abbrev pub Without : ℕ → Text → Type 0
Without b bs = (i : ℕ) → i < length bs → get_or bs i 0 ≡ b → ⊥

-- whether a text has no such byte
abbrev pub lacks : ℕ → Text → Bool
lacks b = list_all (λ c. not (c == b))

-- a text without such a byte
pub without : (b : ℕ) (bs : Text) → lacks b bs ≡ true → Without b bs
without b [] h i lt e = absurd (omega arith)
without b (c ∷ cs) h zero lt e =
    both_ways (c == b) (not-true (c == b) (and_parts (not (c == b)) (lacks b cs) h).0) (eq-eqb c b e)
without b (c ∷ cs) h (suc i) lt e = without b cs (and_parts (not (c == b)) (lacks b cs) h).1 i (omega arith) e

other_head : (b c : ℕ) (cs : Text) → Without b (c ∷ cs) → (c == b) ≡ false
other_head b c cs w = ne_eqb c b (w 0 (omega arith))

tail : (b c : ℕ) (cs : Text) → Without b (c ∷ cs) → Without b cs
tail b c cs w i lt e = w (suc i) (omega arith) e

-- a text is cut at its first such byte
pub cut_at : (b : ℕ) (xs ys : Text) → Without b xs → cut b (xs ++ b ∷ ys) ≡ Some (xs, ys)
cut_at b [] ys w = rw (eq-eqb b b refl) refl
cut_at b (c ∷ cs) ys w = rw (other_head b c cs w, cut_at b cs ys (tail b c cs w)) refl

-- a text without such a byte isn't cut
pub cut_none : (b : ℕ) (xs : Text) → Without b xs → cut b xs ≡ None
cut_none b [] w = refl
cut_none b (c ∷ cs) w = rw (other_head b c cs w, cut_none b cs (tail b c cs w)) refl

-- two texts without such a byte, joined
pub lacks-append : (b : ℕ) (xs ys : Text) → lacks b xs ≡ true → lacks b ys ≡ true → lacks b (xs ++ ys) ≡ true
lacks-append b [] ys h k = k
lacks-append b (c ∷ cs) ys h k =
    let p = and_parts (not (c == b)) (lacks b cs) h in
    and_from (not (c == b)) (lacks b (cs ++ ys)) p.0 (lacks-append b cs ys p.1 k)

apart : (b c : ℕ) → (c ≡ b → ⊥) → not (c == b) ≡ true
apart b c h = rw (ne_eqb c b h) refl

-- b is no digit
abbrev pub NoDigit : ℕ → Type 0
NoDigit b = (m : ℕ) → m < 10 → 48 + m ≡ b → ⊥

-- a decimal number has only digits
pub lacks-decimal : (b n : ℕ) → NoDigit b → n < 2 ^ 64 → lacks b (decimal n) ≡ true
lacks-decimal b n none fits =
    decimal_by_steps (λ m ds. lacks b ds ≡ true)
    (λ m small. and_from (not ((48 + m) == b)) true (apart b (48 + m) (none m small)) refl)
    (λ m ds large h. lacks-append b ds ((48 + m % 10) ∷ []) h
    (and_from (not ((48 + m % 10) == b)) true (apart b (48 + m % 10) (none (m % 10) (omega arith))) refl)) n fits

-- a signed decimal number has only digits and a minus
pub lacks-signed : (b : ℕ) (z : ℤ) → NoDigit b → (45 ≡ b → ⊥) → FitsSigned w32 z → lacks b (signed_decimal z) ≡ true
lacks-signed b (pos n) none minus fits = lacks-decimal b n none (omega arith)
lacks-signed b (negsuc n) none minus fits =
    and_from (not (45 == b)) (lacks b (decimal (suc n))) (apart b 45 minus) (lacks-decimal b (suc n) none (omega arith))

-- the magnitude of an int of 32 bits is small
pub mag_small : (z : ℤ) → FitsSigned w32 z → mag z < 2 ^ 63
mag_small (pos n) fits = omega arith
mag_small (negsuc n) fits = omega arith

-- the answer of std's cut is this cut
pub cut_is : (b : ℕ) (bs : Text) (r : Option (Bor (List ℕ) × Bor (List ℕ))) → IsSplitOnceResult b bs r → b < 128
    → option_map (λ p. (p.0.now, p.1.now)) r ≡ cut b bs
cut_is b bs None h low = sym (cut_none b bs (split_parts b bs None h low))
cut_is b bs (Some p) h low = let q = split_parts b bs (Some p) h low in
    sym (ap (cut b) q.0 ∙ cut_at b p.0.now p.1.now q.1)

-- what is cut, put together again
pub cut_parts : (b : ℕ) (bs x y : Text) → two x y ≡ cut b bs → bs ≡ x ++ b ∷ y
cut_parts b [] x y e = absurd (none_is (sym e))
cut_parts b (c ∷ cs) x y e = go (c == b) refl (cut b cs) (λ p q. cut_parts b cs p q) e
  where
    go : (t : Bool) → (c == b) ≡ t → (o : Option Two) → ((p q : Text) → two p q ≡ o → cs ≡ p ++ b ∷ q)
        → two x y ≡ cond t (two [] cs) (option_map (λ p. (c ∷ p.0, p.1)) o) → c ∷ cs ≡ x ++ b ∷ y
    go true same o next k =
        let first = first_of_two x y [] cs k in
        let second = second_of_two x y [] cs k in
        rw (first, second, eqb-true c b same) refl
    go false same None next k = absurd (none_is (sym k))
    go false same (Some p) next k =
        let first = first_of_two x y (c ∷ p.0) p.1 k in
        let second = second_of_two x y (c ∷ p.0) p.1 k in
        rw (first, second) (ap (λ l. c ∷ l) (next p.0 p.1 refl))
