-- The bytes of names and counts, and items that are cut from a text.
use Rattle.std.proofs.Common.{◌≡◌, ◌∙◌, ◌+◌, ◌<◌, ◌≤◌, inl, inr, ℕ, suc, Bool, true, false, cond, List, [], ◌∷◌, ◌++◌}
use Rattle.std.proofs.Common.{length, take, drop, get_or, not, Some, None, refl, sym, ap, arith, eqb-true}
use Rattle.std.specs.Prelude.{◌==◌, ◌&&◌, ◌||◌, ◌^◌, ◌%◌, nat_le, nat_lt, is_none}
use Rattle.std.specs.Fmt.{decimal}
use Rattle.std.specs.List.{list_all, position, position_or_len}
use Rattle.std.specs.Option.{option_map_or}
use Rattle.std.specs.Str.Parse.{digits_value}
use Rattle.std.proofs.lemmas.Bool.{and_parts, or_cases, cases_Bool, true≢false, le-leb, le-ltb, lt-ltb}
use Rattle.std.proofs.lemmas.Fmt.{decimal_is_IsNumeral, decimal_by_steps, decimal_nonempty, first_decimal}
use Rattle.std.proofs.lemmas.List.Folds.{list_all-append}
use Rattle.ls_lexer.specs.Characters.{is_letter, is_part, run}
use Rattle.ls_lexer.specs.Names.{is_identifier, is_name}
use Rattle.ls_lexer.specs.Words.{reserved_word}
use Rattle.ls_items.specs.Items.{Item, is_gap, items, joined, with_byte}
use Rattle.ls_lexer.specs.Characters.{is_digit}
use Rattle.ls_schedule.specs.Reading.{count_of, is_count, parts_of}
use Rattle.ls_schedule.proofs.Digits.{digit_range}

-- ---- the bytes of a name

abbrev pub Each : (ℕ → Type 0) → List ℕ → Type 0
Each P [] = Unit {0}
Each P (b ∷ bs) = P b × Each P bs

abbrev pub Parts : List ℕ → Type 0
Parts = Each (λ b. is_part b ≡ true)

abbrev pub NoGaps : List ℕ → Type 0
NoGaps = Each (λ b. is_gap b ≡ false)

-- neither a parenthesis that begins a group nor one that ends it
abbrev pub IsPlain : ℕ → Type 0
IsPlain b = ((b == 40) ≡ false) × ((b == 41) ≡ false)

abbrev pub NoGroups : List ℕ → Type 0
NoGroups = Each IsPlain

each_weaker : (P Q : ℕ → Type 0) → ((b : ℕ) → P b → Q b) → (bs : List ℕ) → Each P bs → Each Q bs
each_weaker P Q f [] h = tt
each_weaker P Q f (b ∷ bs) h = (f b h.0, each_weaker P Q f bs h.1)

pub each_append : (P : ℕ → Type 0) (xs ys : List ℕ) → Each P xs → Each P ys → Each P (xs ++ ys)
each_append P [] ys h k = k
each_append P (x ∷ xs) ys h k = (h.0, each_append P xs ys h.1 k)

clash : (b k : ℕ) → (b == k) ≡ true → is_part k ≡ false → is_part b ≡ true → ⊥
clash b k e f h =
    let is : b ≡ k = eqb-true b k e in
    let same : is_part b ≡ is_part k = ap is_part is in
    true≢false (sym h ∙ same ∙ f)

part_not_gap : (b : ℕ) → is_part b ≡ true → is_gap b ≡ true → ⊥
part_not_gap b h g =
    elim (or_cases (b == 32) (b == 9 || (b == 13 || b == 10)) g) [
      | inl e ↦ clash b 32 e refl h
      | inr f ↦ elim (or_cases (b == 9) (b == 13 || b == 10) f) [
        | inl e ↦ clash b 9 e refl h
        | inr f ↦ elim (or_cases (b == 13) (b == 10) f) [ inl e ↦ clash b 13 e refl h | inr e ↦ clash b 10 e refl h ]
      ]
    ]

part_gap : (b : ℕ) → is_part b ≡ true → is_gap b ≡ false
part_gap b h = elim (cases_Bool (is_gap b)) [ inl g ↦ absurd (part_not_gap b h g) | inr g ↦ g ]

part_star : (b : ℕ) → is_part b ≡ true → (b == 42) ≡ false
part_star b h = elim (cases_Bool (b == 42)) [ inl e ↦ absurd (clash b 42 e refl h) | inr e ↦ e ]

part_plain : (b : ℕ) → is_part b ≡ true → IsPlain b
part_plain b h = (
  elim (cases_Bool (b == 40)) [ inl e ↦ absurd (clash b 40 e refl h) | inr e ↦ e ],
  elim (cases_Bool (b == 41)) [ inl e ↦ absurd (clash b 41 e refl h) | inr e ↦ e ],
)

pub parts_plain : (bs : List ℕ) → Parts bs → NoGroups bs
parts_plain bs h = each_weaker (λ b. is_part b ≡ true) IsPlain part_plain bs h

pub parts_gaps : (bs : List ℕ) → Parts bs → NoGaps bs
parts_gaps bs h = each_weaker (λ b. is_part b ≡ true) (λ b. is_gap b ≡ false) part_gap bs h

run_yes : (test : ℕ → Bool) (b : ℕ) (bs : List ℕ) → test b ≡ true → run test (b ∷ bs) ≡ run test bs + 1
run_yes test b bs h = rw h refl

run_no : (test : ℕ → Bool) (b : ℕ) (bs : List ℕ) → test b ≡ false → run test (b ∷ bs) ≡ 0
run_no test b bs h = rw h refl

run_all : (test : ℕ → Bool) (bs : List ℕ) → run test bs ≡ length bs → Each (λ b. test b ≡ true) bs
run_all test [] h = tt
run_all test (b ∷ bs) h =
    elim (cases_Bool (test b)) [
      | inl p ↦ (p, run_all test bs (omega (arith, h, run_yes test b bs p)))
      | inr p ↦ absurd (omega (arith, h, run_no test b bs p))
    ]

or_right : (x y : Bool) → y ≡ true → (x || y) ≡ true
or_right true y h = refl
or_right false y h = h

identifier_parts : (name : List ℕ) → is_identifier name ≡ true → (0 < length name) × Parts name
identifier_parts [] h = absurd (true≢false (sym h))
identifier_parts (b ∷ bs) h =
    let p = and_parts (is_letter b) (run is_part bs == length bs) h in
    (omega arith, (or_right _ (is_letter b) p.0, run_all is_part bs (eqb-true _ _ p.1)))

pub name_parts : (name : List ℕ) → is_name name ≡ true → (0 < length name) × Parts name
unfolding is_name
name_parts name h = identifier_parts name (and_parts (is_identifier name) (is_none (reserved_word name)) h).0

-- ---- the digits of a count

and_true : (x y : Bool) → x ≡ true → y ≡ true → (x && y) ≡ true
and_true true y h k = k
and_true false y h k = absurd (true≢false (sym h))

digit_of : (n : ℕ) → n < 10 → is_digit (48 + n) ≡ true
digit_of n lt =
    and_true (nat_le 48 (48 + n)) (nat_le (48 + n) 57) (le-leb 48 (48 + n) (omega arith))
    (le-leb (48 + n) 57 (omega arith))

one_digit : (n : ℕ) → n < 10 → list_all is_digit ((48 + n) ∷ []) ≡ true
one_digit n lt = and_true (is_digit (48 + n)) true (digit_of n lt) refl

more_digits : (n : ℕ) (ds : List ℕ) →
    10 ≤ n →
    list_all is_digit ds ≡ true →
    list_all is_digit (ds ++ (48 + n % 10) ∷ []) ≡ true
more_digits n ds le h = list_all-append is_digit ds ((48 + n % 10) ∷ []) ∙
    and_true _ _ h (one_digit (n % 10) (omega arith))

pub decimal_digits : (n : ℕ) → n < 2 ^ 64 → list_all is_digit (decimal n) ≡ true
decimal_digits n lt = decimal_by_steps (λ _ ds. list_all is_digit ds ≡ true) one_digit more_digits n lt

gap_small : (b : ℕ) → is_gap b ≡ true → b ≤ 32
gap_small b g =
    elim (or_cases (b == 32) (b == 9 || (b == 13 || b == 10)) g) [
      | inl e ↦ omega (arith, eqb-true b 32 e)
      | inr f ↦ elim (or_cases (b == 9) (b == 13 || b == 10) f) [
        | inl e ↦ omega (arith, eqb-true b 9 e)
        | inr f ↦ elim (or_cases (b == 13) (b == 10) f) [
          | inl e ↦ omega (arith, eqb-true b 13 e)
          | inr e ↦ omega
              (arith, eqb-true b 10 e)
        ]
      ]
    ]

digit_gap : (b : ℕ) → is_digit b ≡ true → is_gap b ≡ false
digit_gap b h = elim (cases_Bool (is_gap b)) [
  | inl g ↦ absurd (omega (arith, gap_small b g, (digit_range b h).0))
  | inr
      g ↦ g
]

pub digits_gaps : (ds : List ℕ) → list_all is_digit ds ≡ true → NoGaps ds
digits_gaps [] h = tt
digits_gaps (d ∷ ds) h = let p = and_parts (is_digit d) (list_all is_digit ds) h in
    (digit_gap d p.0, digits_gaps ds p.1)

digit_not : (b k : ℕ) → k < 48 → is_digit b ≡ true → (b == k) ≡ false
digit_not b k small h = elim (cases_Bool (b == k)) [
  | inl e ↦ absurd
      (omega (arith, eqb-true b k e, small, (digit_range b h).0))
  | inr e ↦ e
]

pub digits_plain : (ds : List ℕ) → list_all is_digit ds ≡ true → NoGroups ds
digits_plain [] h = tt
digits_plain (d ∷ ds) h =
    let p = and_parts (is_digit d) (list_all is_digit ds) h in
    ((digit_not d 40 (omega arith) p.0, digit_not d 41 (omega arith) p.0), digits_plain ds p.1)

not_zero : (d : ℕ) → 48 < d → (d == 48) ≡ false
not_zero d lt = elim (cases_Bool (d == 48)) [ inl e ↦ absurd (omega (arith, eqb-true d 48 e)) | inr e ↦ e ]

counts : (ds : List ℕ) → 0 < length ds → 48 < get_or ds 0 0 → list_all is_digit ds ≡ true → is_count ds ≡ true
counts [] pos first h = absurd (omega arith)
counts (d ∷ ds) pos first h = and_true (not (d == 48)) _ (ap not (not_zero d first)) h

pub count_read : (n : ℕ) → 0 < n → n < 2 ^ 64 → count_of (decimal n) ≡ Some n
count_read n pos lt =
    let form : is_count (decimal n) ≡ true = counts (decimal n) (decimal_nonempty n lt) (first_decimal n pos lt)
    (decimal_digits n lt) in
    ap (λ t. cond t (Some (digits_value 10 (decimal n))) None) form ∙ ap Some (decimal_is_IsNumeral n lt).1

-- ---- a name, and a star behind it

abbrev star : ℕ → Bool
star b = b == 42

star_at : (name rest : List ℕ) → Parts name → position_or_len star (name ++ 42 ∷ rest) ≡ length name
star_at [] rest h = refl
star_at (b ∷ bs) rest h =
    let k : ℕ = position_or_len star (bs ++ 42 ∷ rest) in
    let one : 1 + k ≡ suc (length bs) = omega (arith, star_at bs rest h.1) in
    ap (λ t. cond (not t) (1 + k) 0) (part_star b h.0) ∙ one

star_none : (name : List ℕ) → Parts name → position_or_len star name ≡ length name
star_none [] h = refl
star_none (b ∷ bs) h =
    let k : ℕ = position_or_len star bs in
    let one : 1 + k ≡ suc (length bs) = omega (arith, star_none bs h.1) in
    ap (λ t. cond (not t) (1 + k) 0) (part_star b h.0) ∙ one

take_front : (xs ys : List ℕ) → take (length xs) (xs ++ ys) ≡ xs
take_front [] ys = refl
take_front (x ∷ xs) ys = ap (λ l. x ∷ l) (take_front xs ys)

drop_front : (xs ys : List ℕ) (y : ℕ) → drop (suc (length xs)) (xs ++ y ∷ ys) ≡ ys
drop_front [] ys y = refl
drop_front (x ∷ xs) ys y = drop_front xs ys y

length_more : (xs ys : List ℕ) (y : ℕ) → length xs < length (xs ++ y ∷ ys)
length_more [] ys y = omega arith
length_more (x ∷ xs) ys y = omega (arith, length_more xs ys y)

pub parts_once : (name : List ℕ) → Parts name → parts_of name ≡ (name, Some 1)
parts_once name h =
    let none : position star name ≡ None =
    ap (λ k. cond (nat_lt k (length name)) (Some k) None) (star_none name h) ∙
    ap (λ t. cond t (Some (length name)) None) (le-ltb (length name) (length name) (omega arith)) in
    ap (λ o. option_map_or (λ i. (take i name, count_of (drop (i + 1) name))) o (name, Some 1)) none

pub parts_times : (name ds : List ℕ) → Parts name → parts_of (name ++ 42 ∷ ds) ≡ (name, count_of ds)
parts_times name ds h =
    let item : List ℕ = name ++ 42 ∷ ds in
    let some : position star item ≡ Some (length name) =
    ap (λ k. cond (nat_lt k (length item)) (Some k) None) (star_at name ds h) ∙
    ap (λ t. cond t (Some (length name)) None) (lt-ltb (length name) (length item) (length_more name ds 42)) in
    let next : length name + 1 ≡ suc (length name) = omega arith in
    let front : take (length name) item ≡ name = take_front name (42 ∷ ds) in
    let back : drop (length name + 1) item ≡ ds = ap (λ k. drop k item) next ∙ drop_front name ds 42 in
    ap (λ o. option_map_or (λ i. (take i item, count_of (drop (i + 1) item))) o (item, Some 1)) some ∙
    (λ i. (front i, count_of (back i)))

-- ---- an item at the front of a text

pub word_items : (at b : ℕ) (w : List ℕ) (c : ℕ) (rest : List ℕ) →
    NoGaps (b ∷ w) →
    is_gap c ≡ true →
    (place : ℕ) × (items at (b ∷ w ++ c ∷ rest) ≡ (at, b ∷ w) ∷ items place (c ∷ rest))
word_items at b [] c rest n g =
    let more : List Item = items (at + 1) (c ∷ rest) in (
      at + 1,
      ap (λ t. cond t more (with_byte at b (c ∷ rest) more)) n.0 ∙
          ap (λ t. cond t ((at, b ∷ []) ∷ more) (joined at b more)) g,
    )
word_items at b (d ∷ w) c rest n g =
    let found = word_items (at + 1) d w c rest n.1 g in
    let more : List Item = items (at + 1) (d ∷ w ++ c ∷ rest) in (
      found.0,
      ap (λ t. cond t more (with_byte at b (d ∷ w ++ c ∷ rest) more)) n.0 ∙
          ap (λ t. cond t ((at, b ∷ []) ∷ more) (joined at b more)) n.1.0 ∙ ap (joined at b) found.1,
    )
