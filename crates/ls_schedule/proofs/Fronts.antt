-- The pieces of a text, from its front on.
use Rattle.std.proofs.Common.{◌≡◌, ◌∙◌, inl, inr, ◌+◌, ◌<◌, ℕ, suc, Bool, true, false, cond, List, [], ◌∷◌, length}
use Rattle.std.proofs.Common.{take, drop, get_or, not, Option, Some, None, refl, sym, ap, subst, arith, eqb-true}
use Rattle.std.specs.Prelude.{◌==◌, ◌&&◌, ◌||◌, codes, if◌then◌else◌}
use Rattle.std.specs.List.{prefix_len}
use Rattle.std.specs.Str.{bytes_eq}
use Rattle.std.proofs.lemmas.Bool.{cases_Bool, true≢false}
use Rattle.std.proofs.lemmas.List.{drop-drop}
use Rattle.ls_items.specs.Items.{is_gap}
use Rattle.ls_schedule.specs.Pieces.{Piece, Gap, Word, Opens, Closes, closing, ends_word, opens, pieces, second_version}
use Rattle.ls_schedule.specs.Pieces.{with_byte}
use Rattle.ls_schedule.specs.Passing.{begins_group, word_len}

-- ---- what ends a word

or_right : (x y : Bool) → y ≡ true → (x || y) ≡ true
or_right true y h = refl
or_right false y h = h

gap_ends : (b : ℕ) → is_gap b ≡ true → ends_word b ≡ true
gap_ends b g = ap (λ t. t || (b == 40 || b == 41)) g

open_ends : (b : ℕ) → (b == 40) ≡ true → ends_word b ≡ true
open_ends b e = or_right (is_gap b) (b == 40 || b == 41) (ap (λ t. t || b == 41) e)

close_ends : (b : ℕ) → (b == 41) ≡ true → ends_word b ≡ true
close_ends b e = or_right (is_gap b) (b == 40 || b == 41) (or_right (b == 40) (b == 41) e)

pub none_ends : (b : ℕ) → is_gap b ≡ false → (b == 40) ≡ false → (b == 41) ≡ false → ends_word b ≡ false
none_ends b g e f = ap (λ t. t || (b == 40 || b == 41)) g ∙ ap (λ t. t || b == 41) e ∙ f

stops : (b : ℕ) (bs : List ℕ) → ends_word b ≡ true → word_len (b ∷ bs) ≡ 0
stops b bs e = ap (λ t. cond (not t) (1 + word_len bs) 0) e

goes_on : (b : ℕ) (bs : List ℕ) → ends_word b ≡ false → word_len (b ∷ bs) ≡ suc (word_len bs)
goes_on b bs e = let one : 1 + word_len bs ≡ suc (word_len bs) = omega arith in
    ap (λ t. cond (not t) (1 + word_len bs) 0) e ∙ one

-- ---- the first piece

pub at_gap : (at b : ℕ) (bs : List ℕ) → is_gap b ≡ true → pieces at (b ∷ bs) ≡ Gap ∷ pieces (at + 1) bs
at_gap at b bs g =
    let more : List Piece = pieces (at + 1) bs in
    ap (λ t. cond t (Gap ∷ more) (cond (b == 40) (Opens at ∷ more)
    (cond (b == 41) (closing at more) (with_byte at b more)))) g

pub at_open : (at b : ℕ) (bs : List ℕ) → (b == 40) ≡ true → pieces at (b ∷ bs) ≡ Opens at ∷ pieces (at + 1) bs
at_open at b bs e = subst (λ x. pieces at (x ∷ bs) ≡ Opens at ∷ pieces (at + 1) bs) (sym (eqb-true b 40 e)) refl

pub at_close : (at b : ℕ) (bs : List ℕ) → (b == 41) ≡ true → pieces at (b ∷ bs) ≡ closing at (pieces (at + 1) bs)
at_close at b bs e = subst (λ x. pieces at (x ∷ bs) ≡ closing at (pieces (at + 1) bs)) (sym (eqb-true b 41 e)) refl

pub at_byte : (at b : ℕ) (bs : List ℕ) →
    is_gap b ≡ false →
    (b == 40) ≡ false →
    (b == 41) ≡ false →
    pieces at (b ∷ bs) ≡ with_byte at b (pieces (at + 1) bs)
at_byte at b bs g e f =
    let more : List Piece = pieces (at + 1) bs in
    ap (λ t. cond t (Gap ∷ more) (cond (b == 40) (Opens at ∷ more)
    (cond (b == 41) (closing at more) (with_byte at b more)))) g
    ∙ ap (λ t. cond t (Opens at ∷ more) (cond (b == 41) (closing at more) (with_byte at b more))) e
    ∙ ap (λ t. cond t (closing at more) (with_byte at b more)) f

-- ---- before a text: a byte of a word, or a closing parenthesis

-- no word stands first
abbrev NoWord : ℕ → ℕ → List Piece → Type 0
NoWord k b ps = (with_byte k b ps ≡ Word k (b ∷ []) ∷ ps) × (closing k ps ≡ Closes k [] ∷ ps)

closed_first : (k b at : ℕ) (ps : List Piece) → NoWord k b (closing at ps)
closed_first k b at [] = (refl, refl)
closed_first k b at (Gap ∷ ps) = (refl, refl)
closed_first k b at (Word next bytes ∷ ps) = (refl, refl)
closed_first k b at (Opens next ∷ ps) = (refl, refl)
closed_first k b at (Closes next after ∷ ps) = (refl, refl)

abbrev pub Front : ℕ → List ℕ → ℕ → ℕ → Type 0
Front at bs k b =
    (with_byte k b (pieces at bs) ≡ Word k (b ∷ take (word_len bs) bs) ∷
    pieces (at + word_len bs) (drop (word_len bs) bs))
    × (closing k (pieces at bs) ≡ Closes k (take (word_len bs) bs) ∷ pieces (at + word_len bs) (drop (word_len bs) bs))

no_word : (at k b : ℕ) (bs : List ℕ) → word_len bs ≡ 0 → NoWord k b (pieces at bs) → Front at bs k b
no_word at k b bs len h =
    let here : at ≡ at + 0 = omega arith in (
      h.0 ∙ ap (λ m. Word k (b ∷ []) ∷ pieces m bs) here ∙ ap
          (λ n. Word k (b ∷ take n bs) ∷ pieces (at + n) (drop n bs)) (sym len),
      h.1 ∙ ap (λ m. Closes k [] ∷ pieces m bs) here ∙ ap (λ n. Closes k (take n bs) ∷ pieces (at + n) (drop n bs))
          (sym len),
    )

pub front : (at : ℕ) (bs : List ℕ) (k b : ℕ) → Front at bs k b
front at [] k b = (refl, refl)
front at (c ∷ cs) k b =
    elim (cases_Bool (is_gap c)) [
      | inl g ↦ no_word at k b (c ∷ cs) (stops c cs (gap_ends c g))
          (subst (NoWord k b) (sym (at_gap at c cs g)) (refl, refl))
      | inr g ↦ elim (cases_Bool (c == 40)) [
        | inl e ↦ no_word at k b (c ∷ cs) (stops c cs (open_ends c e))
            (subst (NoWord k b) (sym (at_open at c cs e)) (refl, refl))
        | inr e ↦ elim (cases_Bool (c == 41)) [
          | inl f ↦ no_word at k b (c ∷ cs) (stops c cs (close_ends c f))
              (subst (NoWord k b) (sym (at_close at c cs f)) (closed_first k b at (pieces (at + 1) cs)))
          | inr f ↦ more (at_byte at c cs g e f) (goes_on c cs (none_ends c g e f)) (front (at + 1) cs at c).0
        ]
      ]
    ]
  where
    more : pieces at (c ∷ cs) ≡ with_byte at c (pieces (at + 1) cs) → word_len (c ∷ cs) ≡ suc (word_len cs)
        → with_byte at c (pieces (at + 1) cs) ≡ Word at (c ∷ take (word_len cs) cs) ∷
        pieces (at + 1 + word_len cs) (drop (word_len cs) cs) → Front at (c ∷ cs) k b
    more p len w =
        let m : ℕ = word_len cs in
        let next : at + 1 + m ≡ at + suc m = omega arith in
        let is : pieces at (c ∷ cs) ≡ Word at (c ∷ take m cs) ∷ pieces (at + suc m) (drop m cs) = p ∙ w ∙
        ap (λ n. Word at (c ∷ take m cs) ∷ pieces n (drop m cs)) next in (
          ap (with_byte k b) is ∙ ap (λ n. Word k (b ∷ take n (c ∷ cs)) ∷ pieces (at + n) (drop n (c ∷ cs))) (sym len),
          ap (closing k) is ∙ ap (λ n. Closes k (take n (c ∷ cs)) ∷ pieces (at + n) (drop n (c ∷ cs))) (sym len),
        )

-- ---- whether a group begins

closed_opens : (at : ℕ) (ps : List Piece) → opens (closing at ps) ≡ false
closed_opens at [] = refl
closed_opens at (Gap ∷ ps) = refl
closed_opens at (Word next bytes ∷ ps) = refl
closed_opens at (Opens next ∷ ps) = refl
closed_opens at (Closes next after ∷ ps) = refl

byte_opens : (at b : ℕ) (ps : List Piece) → opens (with_byte at b ps) ≡ false
byte_opens at b [] = refl
byte_opens at b (Gap ∷ ps) = refl
byte_opens at b (Word next bytes ∷ ps) = refl
byte_opens at b (Opens next ∷ ps) = refl
byte_opens at b (Closes next after ∷ ps) = refl

pub opens_is : (at : ℕ) (bs : List ℕ) → opens (pieces at bs) ≡ begins_group bs
opens_is at [] = refl
opens_is at (c ∷ cs) =
    elim (cases_Bool (c == 40)) [
      | inl e ↦ ap opens (at_open at c cs e) ∙ sym e
      | inr e ↦ elim (cases_Bool (is_gap c)) [
        | inl g ↦ ap opens (at_gap at c cs g) ∙ sym e
        | inr g ↦ elim (cases_Bool (c == 41)) [
          | inl f ↦ ap opens (at_close at c cs f) ∙ closed_opens at (pieces (at + 1) cs) ∙ sym e
          | inr f ↦ ap opens (at_byte at c cs g e f) ∙ byte_opens at c (pieces (at + 1) cs) ∙ sym e
        ]
      ]
    ]

-- ---- the version

-- what follows `@2`, where a text begins with it
abbrev pub version_here : ℕ → List ℕ → Option (List Piece)
version_here at bs =
    if bytes_eq (take (word_len bs) bs) (codes "@2") && not (begins_group (drop (word_len bs) bs)) then
    Some (pieces (at + word_len bs) (drop (word_len bs) bs)) else None

abbrev pub gap_len : List ℕ → ℕ
gap_len bs = prefix_len is_gap bs

closed_version : (at : ℕ) (ps : List Piece) → second_version (closing at ps) ≡ None
closed_version at [] = refl
closed_version at (Gap ∷ ps) = refl
closed_version at (Word next bytes ∷ ps) = refl
closed_version at (Opens next ∷ ps) = refl
closed_version at (Closes next after ∷ ps) = refl

no_version : (at : ℕ) (bs : List ℕ) → word_len bs ≡ 0 → version_here at bs ≡ None
no_version at bs len =
    ap (λ n. if bytes_eq (take n bs) (codes "@2") && not (begins_group (drop n bs)) then
    Some (pieces (at + n) (drop n bs)) else None) len

abbrev Version : ℕ → List ℕ → Type 0
Version at bs = second_version (pieces at bs) ≡ version_here (at + gap_len bs) (drop (gap_len bs) bs)

here : (at : ℕ) (bs : List ℕ) → gap_len bs ≡ 0 → second_version (pieces at bs) ≡ version_here at bs → Version at bs
here at bs none h = let same : at ≡ at + 0 = omega arith in h ∙ ap (λ m. version_here m bs) same ∙
    ap (λ n. version_here (at + n) (drop n bs)) (sym none)

word_version : (at b : ℕ) (bs : List ℕ) →
    is_gap b ≡ false →
    (b == 40) ≡ false →
    (b == 41) ≡ false →
    second_version (pieces at (b ∷ bs)) ≡ version_here at (b ∷ bs)
word_version at b bs g e f =
    let m : ℕ = word_len bs in
    let len : word_len (b ∷ bs) ≡ suc m = goes_on b bs (none_ends b g e f) in
    let next : at + 1 + m ≡ at + suc m = omega arith in
    let is : pieces at (b ∷ bs) ≡ Word at (b ∷ take m bs) ∷ pieces (at + suc m) (drop m bs) =
    at_byte at b bs g e f ∙ (front (at + 1) bs at b).0 ∙ ap (λ n. Word at (b ∷ take m bs) ∷ pieces n (drop m bs)) next
    in
    ap second_version is
    ∙ ap (λ t. if bytes_eq (b ∷ take m bs) (codes "@2") && not t then Some (pieces (at + suc m) (drop m bs)) else None)
    (opens_is (at + suc m) (drop m bs))
    ∙ ap (λ n. if bytes_eq (take n (b ∷ bs)) (codes "@2") && not (begins_group (drop n (b ∷ bs))) then
    Some (pieces (at + n) (drop n (b ∷ bs))) else None) (sym len)

pub version_of : (at : ℕ) (bs : List ℕ) → Version at bs
version_of at [] = refl
version_of at (b ∷ bs) =
    elim (cases_Bool (is_gap b)) [
      | inl g ↦
          let k : ℕ = gap_len bs in
          let next : at + 1 + k ≡ at + suc k = omega arith in
          let one : 1 + k ≡ suc k = omega arith in
          let len : gap_len (b ∷ bs) ≡ suc k = ap (λ t. cond t (1 + k) 0) g ∙ one in
          ap second_version (at_gap at b bs g) ∙ version_of (at + 1) bs ∙ ap (λ m. version_here m (drop k bs)) next
          ∙ ap (λ n. version_here (at + n) (drop n (b ∷ bs))) (sym len)
      | inr g ↦ here at (b ∷ bs) (ap (λ t. cond t (1 + gap_len bs) 0) g) (not_gap g)
    ]
  where
    not_gap : is_gap b ≡ false → second_version (pieces at (b ∷ bs)) ≡ version_here at (b ∷ bs)
    not_gap g =
        elim (cases_Bool (b == 40)) [
          | inl e ↦ ap second_version (at_open at b bs e) ∙ sym (no_version at (b ∷ bs) (stops b bs (open_ends b e)))
          | inr e ↦ elim (cases_Bool (b == 41)) [
            | inl f ↦ ap second_version (at_close at b bs f) ∙ closed_version at (pieces (at + 1) bs) ∙
                sym (no_version at (b ∷ bs) (stops b bs (close_ends b f)))
            | inr f ↦ word_version at b bs g e f
          ]
        ]

-- by what is read of a text: its gaps, the word after them, and what follows
pub version_read : (text : List ℕ) (gaps len : ℕ) (rest word next : List ℕ) (is : Bool) →
    gaps ≡ gap_len text →
    rest ≡ drop gaps text →
    len ≡ word_len rest
    → word ≡ take len rest → next ≡ drop len rest → is ≡ (bytes_eq word (codes "@2") && not (begins_group next))
    → second_version (pieces 0 text) ≡ (if is then Some (pieces (gaps + len) (drop (gaps + len) text)) else None)
version_read text gaps len rest word next is g r l w n b =
    let zero : 0 + gap_len text ≡ gap_len text = omega arith in
    version_of 0 text
    ∙ ap (λ m. version_here m (drop (gap_len text) text)) zero
    ∙ ap (λ m. version_here m (drop m text)) (sym g)
    ∙ ap (version_here gaps) (sym r)
    ∙ ap (λ k. if bytes_eq (take k rest) (codes "@2") && not (begins_group (drop k rest)) then
    Some (pieces (gaps + k) (drop k rest)) else None) (sym l)
    ∙ ap (λ x. if bytes_eq x (codes "@2") && not (begins_group (drop len rest)) then
    Some (pieces (gaps + len) (drop len rest)) else None) (sym w)
    ∙ ap (λ x. if bytes_eq word (codes "@2") && not (begins_group x) then
    Some (pieces (gaps + len) (drop len rest)) else None) (sym n)
    ∙ ap (λ t. if t then Some (pieces (gaps + len) (drop len rest)) else None) (sym b)
    ∙ ap (λ x. if is then Some (pieces (gaps + len) x) else None) (ap (drop len) r ∙ drop-drop len gaps text)

-- ---- by the first byte of a text

pub first_gap : (at : ℕ) (bs : List ℕ) →
    0 < length bs →
    is_gap (get_or bs 0 0) ≡ true →
    pieces at bs ≡ Gap ∷ pieces (at + 1) (drop 1 bs)
first_gap at [] some g = absurd (omega arith)
first_gap at (b ∷ bs) some g = at_gap at b bs g

pub first_open : (at : ℕ) (bs : List ℕ) →
    0 < length bs →
    get_or bs 0 0 ≡ 40 →
    pieces at bs ≡ Opens at ∷ pieces (at + 1) (drop 1 bs)
first_open at [] some e = absurd (omega arith)
first_open at (b ∷ bs) some e = subst (λ x. pieces at (x ∷ bs) ≡ Opens at ∷ pieces (at + 1) bs) (sym e) refl

pub first_close : (at : ℕ) (bs : List ℕ) → 0 < length bs → get_or bs 0 0 ≡ 41
    → pieces at bs ≡ Closes at (take (word_len (drop 1 bs)) (drop 1 bs)) ∷
    pieces (at + 1 + word_len (drop 1 bs)) (drop (word_len (drop 1 bs)) (drop 1 bs))
first_close at [] some e = absurd (omega arith)
first_close at (b ∷ bs) some e = subst (λ x. pieces at (x ∷ bs) ≡ closing at (pieces (at + 1) bs)) (sym e) refl ∙
    (front (at + 1) bs at b).1

or_parts : (x y : Bool) → (x || y) ≡ false → (x ≡ false) × (y ≡ false)
or_parts true y h = absurd (true≢false h)
or_parts false y h = (refl, h)

-- a word, with at least one byte
pub first_word : (at : ℕ) (bs : List ℕ) → 0 < length bs → ends_word (get_or bs 0 0) ≡ false
    → (0 < word_len bs) × (pieces at bs ≡ Word at (take (word_len bs) bs) ∷
    pieces (at + word_len bs) (drop (word_len bs) bs))
first_word at [] some h = absurd (omega arith)
first_word at (b ∷ bs) some h =
    let p = or_parts (is_gap b) (b == 40 || b == 41) h in
    let q = or_parts (b == 40) (b == 41) p.1 in
    let m : ℕ = word_len bs in
    let len : word_len (b ∷ bs) ≡ suc m = goes_on b bs h in
    let next : at + 1 + m ≡ at + suc m = omega arith in (
      omega (arith, len),
      at_byte at b bs p.0 q.0 q.1 ∙ (front (at + 1) bs at b).0 ∙
          ap (λ n. Word at (b ∷ take m bs) ∷ pieces n (drop m bs)) next
          ∙ ap (λ n. Word at (take n (b ∷ bs)) ∷ pieces (at + n) (drop n (b ∷ bs))) (sym len),
    )
