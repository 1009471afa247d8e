-- One piece more of a text is passed, or ends the pass with a fault.
use Rattle.std.proofs.Common.{◌≡◌, ◌∙◌, inl, inr, ◌+◌, ◌-◌, ◌<◌, ◌≤◌, ℕ, zero, suc, Bool, true, false, cond, List, []}
use Rattle.std.proofs.Common.{◌∷◌, ◌++◌, length, take, drop, get_or, Option, Some, None, Result, Ok, Err, refl, sym, ap}
use Rattle.std.proofs.Common.{subst, arith, eqb-true}
use Rattle.std.specs.Prelude.{◌==◌, nat_lt, reverse, unwrap_or, if◌then◌else◌}
use Rattle.std.proofs.lemmas.Bool.{cases_Bool, le-ltb, lt-ltb}
use Rattle.std.proofs.lemmas.List.{drop-drop, length-reverse, map-append, reverse-append, take_all, take_more}
use Rattle.std.proofs.lemmas.Option.{slice_get-get_or}
use Rattle.ls_items.specs.Items.{is_gap}
use Rattle.ls_schedule.specs.declared.fault.ScheduleFault.{ScheduleFault}
use Rattle.ls_schedule.specs.declared.fault.ScheduleFault.TheVariants as fault
use Rattle.ls_schedule.specs.declared.groups.Opened.{Opened}
use Rattle.ls_schedule.specs.Answers.{more_steps}
use Rattle.ls_schedule.specs.Pieces.{Piece, Gap, Word, Opens, Closes, closing, ends_word, pieces, with_byte}
use Rattle.ls_schedule.specs.Reading.{Turns, group_times}
use Rattle.ls_schedule.specs.Passing.{again, begins_group, capped_item, fault_after, fewer, finished, first_fault, goes}
use Rattle.ls_schedule.specs.Passing.{group_count, kept_len, last_first, left_open, or_fault, outer_fault, place_of}
use Rattle.ls_schedule.specs.Passing.{places, times_here, unclosed, word_len}
use Rattle.ls_schedule.proofs.Fronts.{at_byte, at_close, at_gap, at_open, first_close, first_gap, first_open}
use Rattle.ls_schedule.proofs.Fronts.{first_word, front, none_ends, opens_is}

-- ---- the groups round a fault, by bytes

byte_fault : (xs : List ℕ) (deeper : ℕ) (e : ScheduleFault) (at b : ℕ) (ps : List Piece) →
    first_fault xs deeper e (with_byte at b ps) ≡ first_fault xs deeper e ps
byte_fault xs deeper e at b [] = refl
byte_fault xs deeper e at b (Gap ∷ ps) = refl
byte_fault xs deeper e at b (Word next bytes ∷ ps) = refl
byte_fault xs deeper e at b (Opens next ∷ ps) = refl
byte_fault xs deeper e at b (Closes next after ∷ ps) = refl

-- a word after a closing parenthesis has no fault here
after_fault : (xs : List ℕ) (deeper : ℕ) (e : ScheduleFault) (at : ℕ) (after : List ℕ) (ps qs : List Piece) →
    closing at ps ≡ Closes at after ∷ qs
    → first_fault xs deeper e qs ≡ first_fault xs deeper e ps
after_fault xs deeper e at after [] qs h = let is : qs ≡ [] = cc in ap (first_fault xs deeper e) is
after_fault xs deeper e at after (Gap ∷ ps) qs h = let is : qs ≡ Gap ∷ ps = cc in ap (first_fault xs deeper e) is
after_fault xs deeper e at after (Word next bytes ∷ ps) qs h = let is : qs ≡ ps = cc in ap (first_fault xs deeper e) is
after_fault xs deeper e at after (Opens next ∷ ps) qs h = let is : qs ≡ Opens next ∷ ps = cc in
    ap (first_fault xs deeper e) is
after_fault xs deeper e at after (Closes next more ∷ ps) qs h = let is : qs ≡ Closes next more ∷ ps = cc in
    ap (first_fault xs deeper e) is

-- what is asked of a byte and those after it
abbrev by_byte : ℕ → ScheduleFault → ScheduleFault → ScheduleFault → ScheduleFault
by_byte b opening closing other = if b == 40 then opening else if b == 41 then closing else other

byte_opens : (b : ℕ) (x y z : ScheduleFault) → (b == 40) ≡ true → x ≡ by_byte b x y z
byte_opens b x y z o = sym (ap (λ t. cond t x (cond (b == 41) y z)) o)

byte_closes : (b : ℕ) (x y z : ScheduleFault) → (b == 40) ≡ false → (b == 41) ≡ true → y ≡ by_byte b x y z
byte_closes b x y z o c = sym (ap (λ t. cond t x (cond (b == 41) y z)) o ∙ ap (λ t. cond t y z) c)

byte_other : (b : ℕ) (x y z : ScheduleFault) → (b == 40) ≡ false → (b == 41) ≡ false → z ≡ by_byte b x y z
byte_other b x y z o c = sym (ap (λ t. cond t x (cond (b == 41) y z)) o ∙ ap (λ t. cond t y z) c)

-- the same of all that follows a closing parenthesis
after_closing : (at b : ℕ) (bs xs : List ℕ) (deeper : ℕ) (e : ScheduleFault) → (b == 41) ≡ true
    → first_fault xs deeper e (pieces at (b ∷ bs)) ≡ first_fault (left_open deeper xs) (fewer deeper)
    (fault_after deeper xs e (times_here bs)) (pieces (at + 1) bs)
after_closing at b bs xs deeper e c =
    let n : ℕ = word_len bs in
    let next : List Piece = pieces (at + 1 + n) (drop n bs) in
    let split : closing at (pieces (at + 1) bs) ≡ Closes at (take n bs) ∷ next = (front (at + 1) bs at b).1 in
    ap (first_fault xs deeper e) (at_close at b bs c ∙ split)
    ∙ ap (λ t. first_fault (left_open deeper xs) (fewer deeper) (fault_after deeper xs e (group_times (take n bs) t))
    next) (opens_is (at + 1 + n) (drop n bs))
    ∙ after_fault (left_open deeper xs) (fewer deeper) (fault_after deeper xs e (times_here bs)) at (take n bs)
    (pieces (at + 1) bs) next split

pub bytes_fault : (at : ℕ) (bs : List ℕ) (xs : List ℕ) (deeper : ℕ) (e : ScheduleFault) →
    first_fault xs deeper e (pieces at bs) ≡ outer_fault xs deeper e bs
bytes_fault at [] xs deeper e = refl
bytes_fault at (b ∷ bs) xs deeper e =
    let f : ScheduleFault = fault_after deeper xs e (times_here bs) in
    let opening : ScheduleFault = outer_fault xs (suc deeper) e bs in
    let closed : ScheduleFault = outer_fault (left_open deeper xs) (fewer deeper) f bs in
    let other : ScheduleFault = outer_fault xs deeper e bs in
    elim (cases_Bool (b == 40)) [
      | inl o ↦ ap (first_fault xs deeper e) (at_open at b bs o) ∙ bytes_fault (at + 1) bs xs (suc deeper) e ∙
          byte_opens b opening closed other o
      | inr o ↦ elim (cases_Bool (b == 41)) [
        | inl c ↦ after_closing at b bs xs deeper e c ∙ bytes_fault (at + 1) bs (left_open deeper xs) (fewer deeper) f ∙
            byte_closes b opening closed other o c
        | inr c ↦ elim (cases_Bool (is_gap b)) [
          | inl g ↦ ap (first_fault xs deeper e) (at_gap at b bs g) ∙ bytes_fault (at + 1) bs xs deeper e ∙
              byte_other b opening closed other o c
          | inr g ↦
              ap (first_fault xs deeper e) (at_byte at b bs g o c) ∙ byte_fault xs deeper e at b (pieces (at + 1) bs)
              ∙ bytes_fault (at + 1) bs xs deeper e ∙ byte_other b opening closed other o c
        ]
      ]
    ]

-- ---- one byte more

pub outside_opening : (xs : List ℕ) (deeper : ℕ) (e : ScheduleFault) (b : ℕ) (bs : List ℕ) →
    b ≡ 40 →
    outer_fault xs (deeper + 1) e bs ≡ outer_fault xs deeper e (b ∷ bs)
outside_opening xs deeper e b bs is =
    let one : deeper + 1 ≡ suc deeper = omega arith in
    ap (λ d. outer_fault xs d e bs) one ∙ subst (λ x. outer_fault xs (suc deeper) e bs ≡ outer_fault xs deeper e
    (x ∷ bs)) (sym is) refl

not_byte : (b k : ℕ) → (b ≡ k → ⊥) → (b == k) ≡ false
not_byte b k h = elim (cases_Bool (b == k)) [ inl e ↦ absurd (h (eqb-true b k e)) | inr e ↦ e ]

pub outside_other : (xs : List ℕ) (deeper : ℕ) (e : ScheduleFault) (b : ℕ) (bs : List ℕ) →
    (b ≡ 40 → ⊥) →
    (b ≡ 41 → ⊥) →
    outer_fault xs deeper e bs ≡ outer_fault xs deeper e (b ∷ bs)
outside_other xs deeper e b bs o c =
    let closed : ScheduleFault = outer_fault (left_open deeper xs) (fewer deeper)
    (fault_after deeper xs e (times_here bs)) bs in
    let other : ScheduleFault = outer_fault xs deeper e bs in
    sym (ap (λ t. cond t (outer_fault xs (suc deeper) e bs) (cond (b == 41) closed other)) (not_byte b 40 o) ∙
    ap (λ t. cond t closed other) (not_byte b 41 c))

outside_closing : (xs : List ℕ) (deeper : ℕ) (e : ScheduleFault) (b : ℕ) (bs : List ℕ) → b ≡ 41
    → outer_fault (left_open deeper xs) (fewer deeper) (fault_after deeper xs e (times_here bs)) bs ≡ outer_fault xs
    deeper e (b ∷ bs)
outside_closing xs deeper e b bs is =
    subst (λ x. outer_fault (left_open deeper xs) (fewer deeper) (fault_after deeper xs e (times_here bs)) bs ≡
    outer_fault xs deeper e (x ∷ bs)) (sym is) refl

pub outside_deeper : (xs : List ℕ) (deeper : ℕ) (e : ScheduleFault) (b : ℕ) (bs : List ℕ) →
    b ≡ 41 →
    0 < deeper →
    outer_fault xs (deeper - 1) e bs ≡ outer_fault xs deeper e (b ∷ bs)
outside_deeper xs zero e b bs is some = absurd (omega arith)
outside_deeper xs (suc deeper) e b bs is some =
    let one : suc deeper - 1 ≡ deeper = omega arith in
    ap (λ d. outer_fault xs d e bs) one ∙ outside_closing xs (suc deeper) e b bs is

pub outside_all_groups : (xs : List ℕ) (left : ℕ) (e : ScheduleFault) (b : ℕ) (bs : List ℕ) → b ≡ 41 → left ≡ 0
    → outer_fault (last_first xs left) 0 e bs ≡ outer_fault (last_first xs left) 0 e (b ∷ bs)
outside_all_groups xs zero e b bs is none = outside_closing [] 0 e b bs is
outside_all_groups xs (suc left) e b bs is none = absurd (omega arith)

pub outside_one : (xs : List ℕ) (left now : ℕ) (e f : ScheduleFault) (b : ℕ) (bs : List ℕ) →
    b ≡ 41 →
    now + 1 ≡ left →
    f ≡ fault_after 0 (place_of xs now ∷ []) e (times_here bs)
    → outer_fault (last_first xs now) 0 f bs ≡ outer_fault (last_first xs left) 0 e (b ∷ bs)
outside_one xs zero now e f b bs is one h = absurd (omega arith)
outside_one xs (suc left) now e f b bs is one h =
    let same : now ≡ left = omega arith in
    ap (λ g. outer_fault (last_first xs now) 0 g bs) (h ∙ alike (times_here bs))
    ∙ ap (λ k. outer_fault (last_first xs k) 0 (fault_after 0 (place_of xs k ∷ last_first xs k) e (times_here bs)) bs)
    same
    ∙ outside_closing (last_first xs (suc left)) 0 e b bs is
  where
    alike : (t : Option ℕ) →
        fault_after 0 (place_of xs now ∷ []) e t ≡ fault_after 0 (place_of xs now ∷ last_first xs now) e t
    alike None = refl
    alike (Some n) = refl

-- the same where so many groups begin after the fault as before: none
pub outside_round : (xs : List ℕ) (left now deeper same : ℕ) (e f : ScheduleFault) (b : ℕ) (bs : List ℕ) →
    b ≡ 41 →
    deeper ≡ 0 →
    same ≡ deeper →
    now + 1 ≡ left
    → f ≡ fault_after 0 (place_of xs now ∷ []) e (times_here bs) →
    outer_fault (last_first xs now) same f bs ≡ outer_fault (last_first xs left) deeper e (b ∷ bs)
outside_round xs left now deeper same e f b bs is none alike one h =
    ap (λ d. outer_fault (last_first xs now) d f bs) (alike ∙ none) ∙ outside_one xs left now e f b bs is one h
    ∙ sym (ap (λ d. outer_fault (last_first xs left) d e (b ∷ bs)) none)

pub at_end : (xs : List ℕ) (left : ℕ) (e : ScheduleFault) →
    0 < left →
    unclosed (last_first xs left) e ≡ fault.BadItem (place_of xs 0)
at_end xs zero e some = absurd (omega arith)
at_end xs (suc zero) e some = refl
at_end xs (suc (suc left)) e some = at_end xs (suc left) (fault.BadItem (place_of xs (suc left))) (omega arith)

-- a text by its first byte and the others
pub first_and_rest : (bs : List ℕ) (first : ℕ) (rest : List ℕ) →
    0 < length bs →
    first ≡ get_or bs 0 0 →
    rest ≡ drop 1 bs →
    first ∷ rest ≡ bs
first_and_rest [] first rest some f r = absurd (omega arith)
first_and_rest (b ∷ bs) first rest some f r = ap (λ x. x ∷ rest) f ∙ ap (λ l. b ∷ l) r

pub byte_of_word : (b : ℕ) (gap : Bool) →
    gap ≡ is_gap b →
    gap ≡ false →
    (b ≡ 40 → ⊥) →
    (b ≡ 41 → ⊥) →
    ends_word b ≡ false
byte_of_word b gap is none o c = none_ends b (sym is ∙ none) (not_byte b 40 o) (not_byte b 41 c)

-- ---- the groups that are open, by their places

last_take : (xs : List ℕ) (k : ℕ) → k ≤ length xs → last_first xs k ≡ reverse (take k xs)
last_take xs zero le = refl
last_take xs (suc k) le =
    let lt : k < length xs = omega arith in
    let one : k + 1 ≡ suc k = omega arith in
    let place : place_of xs k ≡ get_or xs k 0 = ap (λ o. unwrap_or o 0) (slice_get-get_or xs k 0 lt) in
    ap (λ l. place_of xs k ∷ l) (last_take xs k (omega arith)) ∙ ap (λ x. x ∷ reverse (take k xs)) place
    ∙ sym (ap reverse (sym (ap (λ n. take n xs) one) ∙ take_more xs k 0 lt) ∙
    reverse-append (take k xs) (get_or xs k 0 ∷ []))

abbrev at_of : Opened → ℕ
at_of o = o.at

reverse_places : (os : List Opened) → places (reverse os) ≡ reverse (places os)
reverse_places [] = refl
reverse_places (o ∷ os) =
    ap places (reverse-append (o ∷ []) os) ∙ map-append at_of (reverse os) (o ∷ []) ∙
    ap (λ l. l ++ o.at ∷ []) (reverse_places os)
    ∙ sym (reverse-append (o.at ∷ []) (places os))

places_length : (os : List Opened) → length (places os) ≡ length os
places_length [] = refl
places_length (o ∷ os) = ap (λ n. suc n) (places_length os)

pub last_first_is : (os : List Opened) → last_first (places os) (length os) ≡ places (reverse os)
last_first_is os =
    last_take (places os) (length os) (omega (arith, places_length os)) ∙
    ap reverse (take_all (length os) (places os) (omega (arith, places_length os)))
    ∙ sym (reverse_places os)

one_more : (os : List Opened) (o : Opened) → reverse (os ++ o ∷ []) ≡ o ∷ reverse os
one_more os o = reverse-append os (o ∷ [])

-- a fault in these groups, before these bytes
found : (os : List Opened) (e : ScheduleFault) (at : ℕ) (bs : List ℕ)
    → first_fault (places (reverse os)) 0 e (pieces at bs) ≡ outer_fault (last_first (places os) (length os)) 0 e bs
found os e at bs = bytes_fault at bs (places (reverse os)) 0 e ∙
    ap (λ xs. outer_fault xs 0 e bs) (sym (last_first_is os))

pub finished_open : (os : List Opened) (s : Option (List ℕ)) →
    0 < length os →
    finished (reverse os) s ≡ Err (fault.BadItem (place_of (places os) 0))
finished_open os s some =
    first (reverse os) (omega (arith, some, length-reverse os)) ∙
    ap (λ xs. Err (unclosed xs fault.TooManySteps)) (sym (last_first_is os))
    ∙ ap (λ e. Err e) (at_end (places os) (length os) fault.TooManySteps some)
  where
    first : (rs : List Opened) → 0 < length rs → finished rs s ≡ Err (unclosed (places rs) fault.TooManySteps)
    first [] none = absurd (omega arith)
    first (r ∷ rs) h = refl

-- ---- pieces

module _ (names : List (List ℕ)) (os : List Opened) (filled : Bool) (s : Option (List ℕ)) (at : ℕ) (text : List ℕ)
    (some : 0 < length text) where
  abbrev whole : Result (List ℕ) ScheduleFault
  whole = goes names (reverse os) filled s (pieces at text)

  abbrev rest : List ℕ
  rest = drop 1 text

  abbrev len : ℕ
  len = word_len text

  abbrev after_len : ℕ
  after_len = word_len rest

  abbrev outer : ScheduleFault → List ℕ → ScheduleFault
  outer e bs = outer_fault (last_first (places os) (length os)) 0 e bs

  pub gap_on : is_gap (get_or text 0 0) ≡ true →
      goes names (reverse os) filled s (pieces (at + 1) (drop 1 text)) ≡ goes names (reverse os) filled s
      (pieces at text)
  gap_on g = sym (ap (goes names (reverse os) filled s) (first_gap at text some g))

  pub opening_on : (o : Opened) → get_or text 0 0 ≡ 40 → length os < 8 → o ≡ record { at = at; from = kept_len s }
      → goes names (reverse (os ++ o ∷ [])) false s (pieces (at + 1) (drop 1 text)) ≡ goes names (reverse os) filled s
      (pieces at text)
  opening_on o first lt is =
      let test : nat_lt (length (reverse os)) 8 ≡ true = lt-ltb (length (reverse os)) 8
      (omega (arith, lt, length-reverse os)) in
      let now : Opened = record { at = at; from = kept_len s } in
      let full : Result (List ℕ) ScheduleFault = Err (first_fault (places (reverse os)) 0 (fault.BadItem at)
      (Opens at ∷ pieces (at + 1) rest)) in
      ap (λ rs. goes names rs false s (pieces (at + 1) rest)) (one_more os o ∙ ap (λ x. x ∷ reverse os) is)
      ∙ sym (ap (goes names (reverse os) filled s) (first_open at text some first) ∙
      ap (λ b. cond b (goes names (now ∷ reverse os) false s (pieces (at + 1) rest)) full) test)

  pub opening_full : get_or text 0 0 ≡ 40 → 8 ≤ length os → whole ≡ Err (outer (fault.BadItem at) text)
  opening_full first ge =
      let test : nat_lt (length (reverse os)) 8 ≡ false = le-ltb (length (reverse os)) 8
      (omega (arith, ge, length-reverse os)) in
      let now : Opened = record { at = at; from = kept_len s } in
      let p : pieces at text ≡ Opens at ∷ pieces (at + 1) rest = first_open at text some first in
      let full : Result (List ℕ) ScheduleFault = Err (first_fault (places (reverse os)) 0 (fault.BadItem at)
      (Opens at ∷ pieces (at + 1) rest)) in
      ap (goes names (reverse os) filled s) p ∙ ap (λ b. cond b
      (goes names (now ∷ reverse os) false s (pieces (at + 1) rest)) full) test
      ∙ ap (λ ps. Err (first_fault (places (reverse os)) 0 (fault.BadItem at) ps)) (sym p) ∙
      ap (λ e. Err e) (found os (fault.BadItem at) at text)

  word_is : ends_word (get_or text 0 0) ≡ false
      → whole ≡ or_fault (capped_item names at (take len text) (begins_group (drop len text)))
      (λ t. goes names (reverse os) true (more_steps s t.0 t.1) (pieces (at + len) (drop len text)))
      (λ e. first_fault (places (reverse os)) 0 e (pieces (at + len) (drop len text)))
  word_is first =
      ap (goes names (reverse os) filled s) (first_word at text some first).1
      ∙ ap (λ b. or_fault (capped_item names at (take len text) b)
      (λ t. goes names (reverse os) true (more_steps s t.0 t.1) (pieces (at + len) (drop len text)))
      (λ e. first_fault (places (reverse os)) 0 e (pieces (at + len) (drop len text))))
      (opens_is (at + len) (drop len text))

  pub word_on : (t : Turns) →
      ends_word (get_or text 0 0) ≡ false →
      capped_item names at (take len text) (begins_group (drop len text)) ≡ Ok t
      → goes names (reverse os) true (more_steps s t.0 t.1) (pieces (at + word_len text) (drop (word_len text) text)) ≡
      goes names (reverse os) filled s (pieces at text)
  word_on t first is =
      sym (word_is first ∙
      ap (λ r. or_fault r (λ u. goes names (reverse os) true (more_steps s u.0 u.1)
      (pieces (at + len) (drop len text)))
      (λ e. first_fault (places (reverse os)) 0 e (pieces (at + len) (drop len text)))) is)

  pub word_fault : (e : ScheduleFault) →
      ends_word (get_or text 0 0) ≡ false →
      capped_item names at (take len text) (begins_group (drop len text)) ≡ Err e
      → whole ≡ Err (outer e (drop (word_len text) text))
  word_fault e first is =
      word_is first ∙
      ap (λ r. or_fault r (λ u. goes names (reverse os) true (more_steps s u.0 u.1)
      (pieces (at + len) (drop len text)))
      (λ f. first_fault (places (reverse os)) 0 f (pieces (at + len) (drop len text)))) is
      ∙ ap (λ f. Err f) (found os e (at + len) (drop len text))

  pub stray : get_or text 0 0 ≡ 41 → os ≡ [] → whole ≡ Err (fault.BadItem at)
  stray first none = ap (λ l. goes names (reverse l) filled s (pieces at text)) none ∙
      ap (goes names [] filled s) (first_close at text some first)

  closing_is : (o : Opened) → get_or text 0 0 ≡ 41
      → goes names (reverse (os ++ o ∷ [])) filled s (pieces at text) ≡ or_fault
      (group_count filled o.at (times_here rest)) (λ n. goes names (reverse os) true (again s o.from n)
      (pieces (at + 1 + after_len) (drop after_len rest)))
      (λ e. first_fault (places (reverse os)) 0 e (pieces (at + 1 + after_len) (drop after_len rest)))
  closing_is o first =
      ap (λ l. goes names l filled s (pieces at text)) (one_more os o) ∙
      ap (goes names (o ∷ reverse os) filled s) (first_close at text some first)
      ∙ ap (λ b. or_fault (group_count filled o.at (group_times (take after_len rest) b))
      (λ n. goes names (reverse os) true (again s o.from n) (pieces (at + 1 + after_len) (drop after_len rest)))
      (λ e. first_fault (places (reverse os)) 0 e (pieces (at + 1 + after_len) (drop after_len rest))))
      (opens_is (at + 1 + after_len) (drop after_len rest))

  pub closing_on : (o : Opened) (n : ℕ) → get_or text 0 0 ≡ 41 → group_count filled o.at (times_here rest) ≡ Ok n
      → goes names (reverse os) true (again s o.from n) (pieces (at + (word_len (drop 1 text) + 1))
      (drop (word_len (drop 1 text) + 1) text)) ≡ goes names (reverse (os ++ o ∷ [])) filled s (pieces at text)
  closing_on o n first is =
      let place : at + (after_len + 1) ≡ at + 1 + after_len = omega arith in
      let one : after_len + 1 ≡ 1 + after_len = omega arith in
      let back : drop (after_len + 1) text ≡ drop after_len rest = ap (λ k. drop k text) one ∙
      sym (drop-drop after_len 1 text) in
      ap (λ k. goes names (reverse os) true (again s o.from n) (pieces k (drop (after_len + 1) text))) place
      ∙ ap (λ l. goes names (reverse os) true (again s o.from n) (pieces (at + 1 + after_len) l)) back
      ∙ sym (closing_is o first ∙
      ap (λ r. or_fault r (λ m. goes names (reverse os) true (again s o.from m)
      (pieces (at + 1 + after_len) (drop after_len rest)))
      (λ e. first_fault (places (reverse os)) 0 e (pieces (at + 1 + after_len) (drop after_len rest)))) is)

  pub closing_fault : (o : Opened) (e : ScheduleFault) →
      get_or text 0 0 ≡ 41 →
      group_count filled o.at (times_here rest) ≡ Err e
      → goes names (reverse (os ++ o ∷ [])) filled s (pieces at text) ≡ Err
      (outer e (drop (word_len (drop 1 text)) (drop 1 text)))
  closing_fault o e first is =
      closing_is o first ∙
      ap (λ r. or_fault r (λ m. goes names (reverse os) true (again s o.from m)
      (pieces (at + 1 + after_len) (drop after_len rest)))
      (λ f. first_fault (places (reverse os)) 0 f (pieces (at + 1 + after_len) (drop after_len rest)))) is
      ∙ ap (λ f. Err f) (found os e (at + 1 + after_len) (drop after_len rest))
