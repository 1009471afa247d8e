-- Each character as it is written: safe bytes, which JSON reads as that character.
use Rattle.std.proofs.Common.{◌≡◌, ◌+◌, ◌-◌, ◌/◌, ◌%◌, ◌<◌, ◌≤◌, ◌==◌, ℕ, Bool, true, false, cond, nat_le}
use Rattle.std.proofs.Common.{nat_lt, List, [], ◌∷◌, ◌++◌, Option, Some, None, flat_map, inl, inr, refl, ap, arith}
use Rattle.std.proofs.Common.{append_assoc, if◌then◌else◌}
use Rattle.std.specs.List.{list_all}
use Rattle.std.specs.Option.{option_map_or}
use Rattle.std.proofs.lemmas.Bool.{agree_below_at, and_from, and_parts, cases_Bool, cases_eq, cases_lt, eqb-true}
use Rattle.std.proofs.lemmas.Bool.{false≢true, le-leb, le-ltb, leb-true, lt-ltb, ne_eqb}
use Rattle.std.proofs.lemmas.List.Folds.{list_all-append}
use lib.Utf8.{encode, encodes}
use Rattle.ls_page.specs.Laws.{is_safe}
use Rattle.ls_page.specs.Quoted.{Text, control_text, escaped, hex_digit}
use Rattle.ls_page.specs.Strings.{Byte, Inside, Letter, Number, is_in, is_plain, unit_of}

-- a test that follows from another
all_weaker : (p q : ℕ → Bool) →
    ((byte : ℕ) → p byte ≡ true → q byte ≡ true) →
    (bytes : Text) →
    list_all p bytes ≡ true →
    list_all q bytes ≡ true
all_weaker p q weaker [] h = refl
all_weaker p q weaker (byte ∷ bytes) h =
    let both = and_parts (p byte) (list_all p bytes) h in
    and_from (q byte) (list_all q bytes) (weaker byte both.0) (all_weaker p q weaker bytes both.1)

-- Bytes of characters that aren't ASCII.
abbrev is_high : ℕ → Bool
is_high byte = nat_le 128 byte

one_of : (x y : Bool) (a b c : Text) → list_all is_high a ≡ true → list_all is_high b ≡ true → list_all is_high c ≡ true
    → list_all is_high (cond x a (cond y b c)) ≡ true
one_of true y a b c p q r = p
one_of false true a b c p q r = q
one_of false false a b c p q r = r

is_high_from : (n m : ℕ) → 128 ≤ n → nat_le 128 (n + m) ≡ true
is_high_from n m h = le-leb 128 (n + m) (omega arith)

high_bytes : (c : ℕ) → 128 ≤ c → list_all is_high (encode c) ≡ true
unfolding encode
high_bytes c h =
    let a1 = is_high_from 192 (c / 64) (omega arith) in
    let a2 = is_high_from 128 (c % 64) (omega arith) in
    let a3 = is_high_from 224 (c / 4096) (omega arith) in
    let a4 = is_high_from 128 (c / 64 % 64) (omega arith) in
    let a5 = is_high_from 240 (c / 262144) (omega arith) in
    let a6 = is_high_from 128 (c / 4096 % 64) (omega arith) in
    rw (le-ltb c 128 h) (one_of (nat_lt c 2048) (nat_lt c 65536) _ _ _ (rw (a1, a2) refl) (rw (a3, a4, a2) refl)
    (rw (a5, a6, a4, a2) refl))

high_is_plain : (byte : ℕ) → is_high byte ≡ true → is_plain byte ≡ true
high_is_plain byte h =
    let high = leb-true 128 byte h in
    rw (
      le-ltb byte 32 (omega (arith, high)),
      ne_eqb byte 34 (λ e. omega (arith, high, e)),
      ne_eqb byte 92 (λ e. omega (arith, high, e)),
    ) refl

high_is_safe : (byte : ℕ) → is_high byte ≡ true → is_safe byte ≡ true
high_is_safe byte h =
    let high = leb-true 128 byte h in
    rw (le-leb 32 byte (omega (arith, high)), ne_eqb byte 60 (λ e. omega (arith, high, e))) refl

-- a character that is written as itself
written_so : (c : ℕ) → (c ≡ 34 → ⊥) → (c ≡ 92 → ⊥) → (c ≡ 60 → ⊥) → (c ≡ 127 → ⊥) → 32 ≤ c → escaped c ≡ encode c
written_so c a b d e h = rw (ne_eqb c 34 a, ne_eqb c 92 b, ne_eqb c 60 d, ne_eqb c 127 e, le-ltb c 32 h) refl

high_so : (c : ℕ) → 128 ≤ c → escaped c ≡ encode c
high_so c h = written_so c (λ e. omega (arith, h, e)) (λ e. omega (arith, h, e)) (λ e. omega (arith, h, e))
    (λ e. omega (arith, h, e)) (omega (arith, h))

ascii_safe : (c : ℕ) → c < 128 → list_all is_safe (escaped c) ≡ true
unfolding encode
ascii_safe c h = agree_below_at (λ k. list_all is_safe (escaped k)) (λ k. true) 128 c refl h

one_safe : (c : ℕ) → list_all is_safe (escaped c) ≡ true
one_safe c = elim (cases_lt c 128) [
  | inl small ↦ ascii_safe c small
  | inr big ↦ rw (high_so c big) (all_weaker is_high is_safe high_is_safe (encode c) (high_bytes c big))
]

-- characters are written in safe bytes
pub all_safe : (cs : List ℕ) → list_all is_safe (flat_map escaped cs) ≡ true
all_safe [] = refl
all_safe (c ∷ cs) = rw (list_all-append is_safe (escaped c) (flat_map escaped cs), one_safe c, all_safe cs) refl

reads_bytes : (bytes written text rest : Text) →
    list_all is_plain bytes ≡ true →
    Inside written text rest →
    Inside (bytes ++ written) (bytes ++ text) rest
reads_bytes [] written text rest p h = h
reads_bytes (byte ∷ bytes) written text rest p h =
    let both = and_parts (is_plain byte) (list_all is_plain bytes) p in
    Byte byte (bytes ++ written) (bytes ++ text) rest both.0 (reads_bytes bytes written text rest both.1 h)

-- Control characters.
abbrev third : ℕ → ℕ
third c = if nat_lt c 16 then 48 else 49

abbrev fourth : ℕ → ℕ
fourth c = if nat_lt c 16 then hex_digit c else hex_digit (c - 16)

control_is : (c : ℕ) → control_text c ≡ 92 ∷ 117 ∷ 48 ∷ 48 ∷ third c ∷ fourth c ∷ []
control_is c = elim (cases_Bool (nat_lt c 16)) [ inl e ↦ rw e refl | inr e ↦ rw e refl ]

is_some_of : (o : Option ℕ) (n : ℕ) → option_map_or (λ m. m == n) o false ≡ true → o ≡ Some n
is_some_of (Some m) n h = ap Some (eqb-true m n h)
is_some_of None n h = absurd (false≢true h)

control_unit : (c : ℕ) → c < 32 → unit_of 48 48 (third c) (fourth c) ≡ Some c
control_unit c h =
    is_some_of (unit_of 48 48 (third c) (fourth c)) c
    (agree_below_at (λ k. option_map_or (λ m. m == k) (unit_of 48 48 (third k) (fourth k)) false) (λ k. true) 32 c refl
    h)

low_is_no_surrogate : (c : ℕ) → c < 32 → is_in 55296 57344 c ≡ false
low_is_no_surrogate c h = agree_below_at (λ k. is_in 55296 57344 k) (λ k. false) 32 c refl h

escaped_control : (c : ℕ) → c < 32 → escaped c ≡ control_text c
escaped_control c h =
    rw (
      ne_eqb c 34 (λ e. omega (arith, h, e)),
      ne_eqb c 92 (λ e. omega (arith, h, e)),
      ne_eqb c 60 (λ e. omega (arith, h, e)),
      ne_eqb c 127 (λ e. omega (arith, h, e)),
      lt-ltb c 32 h,
    ) refl

reads_control : (c : ℕ) (written text rest : Text) →
    c < 32 →
    Inside written text rest →
    Inside (escaped c ++ written) (encode c ++ text) rest
reads_control c written text rest small h =
    rw (escaped_control c small, control_is c)
    (Number 48 48 (third c) (fourth c) c written text rest (control_unit c small) (low_is_no_surrogate c small) h)

plain_bytes : (c : ℕ) → (c ≡ 34 → ⊥) → (c ≡ 92 → ⊥) → 32 ≤ c → list_all is_plain (encode c) ≡ true
unfolding encode
plain_bytes c a b h = elim (cases_lt c 128) [
  | inl small ↦ rw (lt-ltb c 128 small, ne_eqb c 34 a, ne_eqb c 92 b, le-ltb c 32 h) refl
  | inr big ↦ all_weaker is_high is_plain high_is_plain (encode c) (high_bytes c big)
]

reads_one : (c : ℕ) (written text rest : Text) →
    Inside written text rest →
    Inside (escaped c ++ written) (encode c ++ text) rest
unfolding encode
reads_one c written text rest h = elim (cases_eq c 34) [
  | inl e ↦ rw e (Letter 34 34 written text rest refl h)
  | inr a ↦ elim (cases_eq c 92) [
    | inl e ↦ rw e (Letter 92 92 written text rest refl h)
    | inr b ↦ elim (cases_eq c 60) [
      | inl e ↦ rw e (Number 48 48 51 99 60 written text rest refl refl h)
      | inr d ↦ elim (cases_eq c 127) [
        | inl e ↦ rw e (Number 48 48 55 102 127 written text rest refl refl h)
        | inr f ↦ elim (cases_lt c 32) [
          | inl small ↦ reads_control c written text rest small h
          | inr big ↦ rw (written_so c a b d f big) (reads_bytes (encode c) written text rest (plain_bytes c a b big) h)
        ]
      ]
    ]
  ]
]

-- characters are read back
pub reads_all : (cs : List ℕ) (written text rest : Text) →
    Inside written text rest →
    Inside (flat_map escaped cs ++ written) (encodes cs ++ text) rest
reads_all [] written text rest h = h
reads_all (c ∷ cs) written text rest h =
    rw (append_assoc (escaped c) (flat_map escaped cs) written, append_assoc (encode c) (encodes cs) text)
    (reads_one c (flat_map escaped cs ++ written) (encodes cs ++ text) rest (reads_all cs written text rest h))
