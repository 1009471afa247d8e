-- Where a text may be cut.
use Rattle.std.proofs.Common.{◌≡◌, ℕ, zero, suc, ◌+◌, ◌-◌, ◌<◌, ◌≤◌, Bool, true, false, List, [], ◌∷◌, length, get_or}
use Rattle.std.proofs.Common.{Option, Some, None, IsUtf8, refl, sym, ap, ◌∙◌, subst, arith, not, inl, inr}
use Rattle.std.specs.Prelude.{◌==◌, ◌&&◌, ◌||◌, nat_le}
use Rattle.std.specs.Str.{IsCharBoundary}
use Rattle.std.proofs.lemmas.Bool.{leb-true, eqb-true, and_parts, or_cases, cases_Bool, cases_lt, not-false}
use Rattle.std.proofs.lemmas.Str.{IsCharBoundary-end, IsCharBoundary-before_ascii, IsCharBoundary-after_ascii}
use Rattle.ls_lexer.specs.Characters.{is_digit, is_letter, is_part, is_white, is_line_end, run}
use Rattle.ls_lexer.specs.Lexemes.{Lexeme}
use Rattle.ls_lexer.specs.Tokens.{comment, longer, gap_of, comment_at}

digit_small : (b : ℕ) → is_digit b ≡ true → b < 128
digit_small b h = omega (arith, leb-true b 57 (and_parts (nat_le 48 b) (nat_le b 57) h).1)

letter_small : (b : ℕ) → is_letter b ≡ true → b < 128
letter_small b h =
    elim (or_cases ((nat_le 65 b && nat_le b 90) || (nat_le 97 b && nat_le b 122) || b == 95) (b == 36) h) [
      | inl l ↦ elim (or_cases ((nat_le 65 b && nat_le b 90) || (nat_le 97 b && nat_le b 122)) (b == 95) l) [
        | inl m ↦ elim (or_cases (nat_le 65 b && nat_le b 90) (nat_le 97 b && nat_le b 122) m) [
          | inl p ↦ omega (arith, leb-true b 90 (and_parts (nat_le 65 b) (nat_le b 90) p).1)
          | inr p ↦ omega (arith, leb-true b 122 (and_parts (nat_le 97 b) (nat_le b 122) p).1)
        ]
        | inr e ↦ omega (arith, eqb-true b 95 e)
      ]
      | inr e ↦ omega (arith, eqb-true b 36 e)
    ]

part_small : (b : ℕ) → is_part b ≡ true → b < 128
part_small b h = elim (or_cases (is_digit b) (is_letter b) h) [ inl d ↦ digit_small b d | inr l ↦ letter_small b l ]

white_small : (b : ℕ) → is_white b ≡ true → b < 128
white_small b h =
    elim (or_cases (b == 32 || b == 9 || b == 12 || b == 13) (b == 10) h) [
      | inl l ↦ elim (or_cases (b == 32 || b == 9 || b == 12) (b == 13) l) [
        | inl m ↦ elim (or_cases (b == 32 || b == 9) (b == 12) m) [
          | inl n ↦ elim (or_cases (b == 32) (b == 9) n) [
            | inl e ↦ omega (arith, eqb-true b 32 e)
            | inr e ↦
                omega (arith, eqb-true b 9 e)
          ]
          | inr e ↦ omega (arith, eqb-true b 12 e)
        ]
        | inr e ↦ omega (arith, eqb-true b 13 e)
      ]
      | inr e ↦ omega (arith, eqb-true b 10 e)
    ]

line_end_small : (b : ℕ) → is_line_end b ≡ true → b < 128
line_end_small b h = elim (or_cases (b == 13) (b == 10) h) [
  | inl e ↦ omega (arith, eqb-true b 13 e)
  | inr e ↦
      omega (arith, eqb-true b 10 e)
]

-- after a small byte
pub cut_after : (xs : List ℕ) (n : ℕ) → IsUtf8 xs → n < length xs → get_or xs n 0 < 128 → IsCharBoundary xs (n + 1)
cut_after xs n utf8 lt small = IsCharBoundary-after_ascii xs n utf8 lt small

-- after white space
pub cut_white : (b : ℕ) (bs : List ℕ) → IsUtf8 (b ∷ bs) → is_white b ≡ true → IsCharBoundary (b ∷ bs) 1
cut_white b bs utf8 h = IsCharBoundary-after_ascii (b ∷ bs) 0 utf8 (omega arith) (white_small b h)

-- after a run that passes a test
run_within : (test : ℕ → Bool) (xs : List ℕ) → run test xs ≤ length xs
run_within test [] = omega arith
run_within test (b ∷ bs) = elim (cases_Bool (test b)) [
  | inl h ↦ rw h (omega (arith, run_within test bs))
  | inr h ↦
      rw h (omega arith)
]

run_yes : (test : ℕ → Bool) (b : ℕ) (bs : List ℕ) → test b ≡ true → run test (b ∷ bs) ≡ run test bs + 1
run_yes test b bs h = rw h refl

run_no : (test : ℕ → Bool) (b : ℕ) (bs : List ℕ) → test b ≡ false → run test (b ∷ bs) ≡ 0
run_no test b bs h = rw h refl

run_passes : (test : ℕ → Bool) (xs : List ℕ) (n : ℕ) → n < run test xs → test (get_or xs n 0) ≡ true
run_passes test [] n lt = absurd (omega arith)
run_passes test (b ∷ bs) zero lt =
    elim (cases_Bool (test b)) [ inl h ↦ h | inr h ↦ absurd (omega (arith, run_no test b bs h)) ]
run_passes test (b ∷ bs) (suc n) lt =
    elim (cases_Bool (test b)) [
      | inl h ↦ run_passes test bs n (omega (arith, run_yes test b bs h))
      | inr h ↦ absurd (omega (arith, run_no test b bs h))
    ]

-- the byte after a run doesn't pass the test
run_stops : (test : ℕ → Bool) (xs : List ℕ) (n : ℕ) → n ≡ run test xs → n < length xs → test (get_or xs n 0) ≡ false
run_stops test [] n e lt = absurd (omega arith)
run_stops test (b ∷ bs) zero e lt =
    elim (cases_Bool (test b)) [ inl h ↦ absurd (omega (arith, run_yes test b bs h)) | inr h ↦ h ]
run_stops test (b ∷ bs) (suc n) e lt =
    elim (cases_Bool (test b)) [
      | inl h ↦ run_stops test bs n (omega (arith, run_yes test b bs h)) (omega arith)
      | inr h ↦ absurd (omega (arith, run_no test b bs h))
    ]

-- after letters and digits
pub cut_run : (xs : List ℕ) → IsUtf8 xs → 0 < run is_part xs → IsCharBoundary xs (run is_part xs)
cut_run xs utf8 pos =
    let n : ℕ = run is_part xs - 1 in
    let is : n + 1 ≡ run is_part xs = omega arith in
    subst (IsCharBoundary xs) is
    (IsCharBoundary-after_ascii xs n utf8 (omega (arith, run_within is_part xs))
    (part_small _ (run_passes is_part xs n (omega arith))))

-- after a comment up to the end of its line
pub cut_line : (b : ℕ) (bs : List ℕ) → IsUtf8 (b ∷ bs) → IsCharBoundary (b ∷ bs) (run (λ x. not (is_line_end x)) bs + 1)
cut_line b bs utf8 =
    let n : ℕ = run (λ x. not (is_line_end x)) bs in
    let within : n ≤ length bs = run_within (λ x. not (is_line_end x)) bs in
    elim (cases_lt n (length bs)) [
      | inl lt ↦
          let stop : not (is_line_end (get_or bs n 0)) ≡ false = run_stops (λ x. not (is_line_end x)) bs n refl lt in
          let next : suc n ≡ n + 1 = omega arith in
          let at : get_or (b ∷ bs) (n + 1) 0 ≡ get_or bs n 0 = ap (λ (k : ℕ). get_or (b ∷ bs) k 0) (sym next) in
          let small : get_or bs n 0 < 128 =
          line_end_small (get_or bs n 0) (not-false (is_line_end (get_or bs n 0)) stop) in
          IsCharBoundary-before_ascii (b ∷ bs) (n + 1) (omega arith) (omega (arith, at, small))
      | inr le ↦
          let is : length (b ∷ bs) ≡ n + 1 = omega arith in
          subst (IsCharBoundary (b ∷ bs)) is (IsCharBoundary-end (b ∷ bs))
    ]

comment_two : (b c : ℕ) (xs : List ℕ) (m : ℕ) → (b == 42 && c == 47) ≡ true → comment (b ∷ c ∷ xs) ≡ Some m → 2 ≡ m
comment_two b c xs m h e = let f = rw h at e in cc

comment_goes_on : (b c : ℕ) (xs : List ℕ) (m : ℕ) →
    (b == 42 && c == 47) ≡ false →
    comment (b ∷ c ∷ xs) ≡ Some m →
    longer (comment (c ∷ xs)) ≡ Some m
comment_goes_on b c xs m h e = rw h at e

longer_some : (o : Option ℕ) (m : ℕ) → longer o ≡ Some m → (n : ℕ) × (o ≡ Some n) × (n + 1 ≡ m)
longer_some None m e = absurd cc
longer_some (Some n) m e = (n, refl, cc)

-- a comment's last byte is a slash
comment_last : (xs : List ℕ) (m : ℕ) → comment xs ≡ Some m → (2 ≤ m) × (m ≤ length xs) × (get_or xs (m - 1) 0 ≡ 47)
comment_last [] m e = absurd cc
comment_last (b ∷ []) m e = absurd cc
comment_last (b ∷ c ∷ xs) m e =
    elim (cases_Bool (b == 42 && c == 47)) [
      | inl h ↦
          let is : 2 ≡ m = comment_two b c xs m h e in
          let slash : c ≡ 47 = eqb-true c 47 (and_parts (b == 42) (c == 47) h).1 in
          subst (λ (k : ℕ). (2 ≤ k) × (k ≤ length (b ∷ c ∷ xs)) × (get_or (b ∷ c ∷ xs) (k - 1) 0 ≡ 47)) is
          (omega arith, omega arith, slash)
      | inr h ↦
          let l = longer_some (comment (c ∷ xs)) m (comment_goes_on b c xs m h e) in
          let i = comment_last (c ∷ xs) l.0 l.1 in
          let n : suc (l.0 - 1) ≡ m - 1 = omega (arith, i.0, l.2) in
          (omega (arith, i.0, l.2), omega (arith, i.1, l.2), ap (λ (k : ℕ). get_or (b ∷ c ∷ xs) k 0) (sym n) ∙ i.2)
    ]

pub cut_comment : (b c : ℕ) (bs : List ℕ) (m : ℕ) →
    IsUtf8 (b ∷ c ∷ bs) →
    comment bs ≡ Some m →
    IsCharBoundary (b ∷ c ∷ bs) (2 + m)
cut_comment b c bs m utf8 e =
    let l = comment_last bs m e in
    let n : suc (suc (m - 1)) ≡ m + 1 = omega (arith, l.0) in
    let is : m + 1 + 1 ≡ 2 + m = omega arith in
    let slash : get_or (b ∷ c ∷ bs) (m + 1) 0 ≡ 47 = ap (λ (k : ℕ). get_or (b ∷ c ∷ bs) k 0) (sym n) ∙ l.2 in
    subst (IsCharBoundary (b ∷ c ∷ bs)) is
    (IsCharBoundary-after_ascii (b ∷ c ∷ bs) (m + 1) utf8 (omega (arith, l.1)) (omega (arith, slash)))

some_is : {A : Type 0} (x y : A) → ◌≡◌ {A = Option A} (Some x) (Some y) → x ≡ y
some_is x y e = cc

gap_some : (o : Option ℕ) (n : ℕ) → gap_of 2 o ≡ Some (None, n) → (m : ℕ) × (o ≡ Some m) × (2 + m ≡ n)
gap_some None n e = absurd cc
gap_some (Some m) n e = (m, refl, ap (λ (p : Option Lexeme × ℕ). p.1) (some_is (None, 2 + m) (None, n) e))

cut_comment_at : (b : ℕ) (bs : List ℕ) (n : ℕ) →
    IsUtf8 (b ∷ bs) →
    comment_at bs ≡ Some (None, n) →
    (0 < n) × IsCharBoundary (b ∷ bs) n
cut_comment_at b [] n utf8 e = absurd cc
cut_comment_at b (c ∷ bs) n utf8 e =
    let g = gap_some (comment bs) n e in
    (omega (arith, g.2), subst (IsCharBoundary (b ∷ c ∷ bs)) g.2 (cut_comment b c bs g.0 utf8 g.1))

-- after a comment that has an end
pub comment_cut : (xs : List ℕ) (b : ℕ) (bs : List ℕ) (n : ℕ) →
    xs ≡ b ∷ bs →
    IsUtf8 xs →
    comment_at bs ≡ Some (None, n) →
    (0 < n) × IsCharBoundary xs n
comment_cut xs b bs n is utf8 e =
    subst (λ (ys : List ℕ). (0 < n) × IsCharBoundary ys n) (sym is) (cut_comment_at b bs n (subst IsUtf8 is utf8) e)

-- after a comment up to the end of its line
pub line_cut : (xs : List ℕ) (b : ℕ) (bs : List ℕ) (n : ℕ) →
    xs ≡ b ∷ bs →
    IsUtf8 xs →
    n ≡ run (λ x. not (is_line_end x)) bs →
    (0 < n + 1) × IsCharBoundary xs (n + 1)
line_cut xs b bs n is utf8 e = (omega arith, rw (is, e) (cut_line b bs (subst IsUtf8 is utf8)))

-- after a sign
pub sign_cut : (xs : List ℕ) (b : ℕ) (bs : List ℕ) (n : ℕ) →
    xs ≡ b ∷ bs →
    IsUtf8 xs →
    0 < n →
    n ≤ length bs + 1 →
    get_or (b ∷ bs) (n - 1) 0 < 128 →
    (0 < n) × IsCharBoundary xs n
sign_cut xs b bs n is utf8 pos le small =
    let k : n - 1 + 1 ≡ n = omega arith in
    let lt : n - 1 < length (b ∷ bs) = omega arith in (
      pos,
      subst (IsCharBoundary xs) k
          (subst (λ (ys : List ℕ). IsCharBoundary ys (n - 1 + 1)) (sym is)
          (IsCharBoundary-after_ascii (b ∷ bs) (n - 1) (subst IsUtf8 is utf8) lt small)),
    )
