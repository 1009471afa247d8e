-- A call's text is ASCII.
use Rattle.std.proofs.Common.{◌≡◌, ◌&&◌, ◌==◌, ◌<◌, ℕ, zero, suc, Bool, true, false, not, List, [], ◌∷◌, ◌++◌, arith}
use Rattle.std.proofs.Common.{refl, sym, subst}
use Rattle.std.specs.Prelude.{Option, Some, None, nat_lt}
use Rattle.std.specs.List.{list_all}
use Rattle.std.specs.Option.{option_map_or}
use Rattle.std.specs.Str.{IsAscii, IsUtf8}
use Rattle.std.proofs.lemmas.Bool.{and_from, and_parts, ltb-true, lt-ltb, true≢false}
use Rattle.std.proofs.lemmas.Bool.Decides.{nat_tests}
use Rattle.std.proofs.lemmas.Str.{IsUtf8-from_ascii}
use Rattle.ls_lexer.specs.Characters.{is_digit, is_part}
use Rattle.ls_lexer.specs.Names.{is_name}
use Rattle.ls_report.specs.Cut.{cut}
use Rattle.ls_report.specs.Events.{Text}
use Rattle.ls_report.proofs.CutLemmas.{cut_parts}
use Rattle.ls_report.proofs.Parts.{name_parts}
use Rattle.ls_orders.specs.Orders.{is_call, is_number}

abbrev low : List ℕ → Bool
low = list_all (λ b. nat_lt b 128)

digit_low : (b : ℕ) → is_digit b ≡ true → b < 128
digit_low b h = grind (arith, nat_tests)

part_low : (b : ℕ) → is_part b ≡ true → b < 128
part_low b h = grind (arith, nat_tests)

low_if : (p : ℕ → Bool) → ((b : ℕ) → p b ≡ true → b < 128) → (bs : Text) → list_all p bs ≡ true → low bs ≡ true
low_if p f [] h = refl
low_if p f (b ∷ bs) h = let q = and_parts (p b) (list_all p bs) h in
    and_from (nat_lt b 128) (low bs) (lt-ltb b 128 (f b q.0)) (low_if p f bs q.1)

low-append : (xs ys : Text) → low xs ≡ true → low ys ≡ true → low (xs ++ ys) ≡ true
low-append [] ys h k = k
low-append (x ∷ xs) ys h k = let q = and_parts (nat_lt x 128) (low xs) h in
    and_from (nat_lt x 128) (low (xs ++ ys)) q.0 (low-append xs ys q.1 k)

ascii_low : (bs : Text) → low bs ≡ true → IsAscii bs
ascii_low [] h i = omega arith
ascii_low (b ∷ bs) h zero = ltb-true b 128 (and_parts (nat_lt b 128) (low bs) h).0
ascii_low (b ∷ bs) h (suc i) = ascii_low bs (and_parts (nat_lt b 128) (low bs) h).1 i

number_low : (bs : Text) → is_number bs ≡ true → low bs ≡ true
number_low [] h = refl
number_low (b ∷ bs) h = low_if is_digit digit_low (b ∷ bs) (and_parts (not (b == 48)) (list_all is_digit (b ∷ bs)) h).1

call_low : (bs : Text) (o : Option (Text × Text)) →
    o ≡ cut 46 bs →
    option_map_or (λ p. is_name p.0 && is_number p.1) o false ≡ true →
    low bs ≡ true
call_low bs None e h = absurd (true≢false (sym h))
call_low bs (Some p) e h =
    let q = and_parts (is_name p.0) (is_number p.1) h in
    let low_all = low-append p.0 (46 ∷ p.1) (low_if is_part part_low p.0 (name_parts p.0 q.0))
    (and_from (nat_lt 46 128) (low p.1) refl (number_low p.1 q.1)) in
    subst (λ t. low t ≡ true) (sym (cut_parts 46 bs p.0 p.1 e)) low_all

-- the text of a call is UTF-8
pub call_is_text : (bs : Text) → is_call bs ≡ true → IsUtf8 bs
call_is_text bs h = IsUtf8-from_ascii bs (ascii_low bs (call_low bs (cut 46 bs) refl h))
