-- A text without parentheses says the same in both versions.
use Rattle.std.proofs.Common.{◌≡◌, ◌∙◌, inl, inr, ◌+◌, ℕ, Bool, true, false, cond, List, [], ◌∷◌, ◌++◌, take, drop}
use Rattle.std.proofs.Common.{Result, Ok, Err, refl, sym, ap, subst, arith, append_assoc, append-nil}
use Rattle.std.specs.Prelude.{if◌then◌else◌}
use Rattle.std.proofs.lemmas.Bool.{cases_Bool}
use Rattle.ls_items.specs.Items.{Item, is_gap, items, joined, with_byte as before_items}
use Rattle.ls_schedule.specs.declared.fault.ScheduleFault.{ScheduleFault}
use Rattle.ls_schedule.specs.declared.fault.ScheduleFault.TheVariants as fault
use Rattle.ls_schedule.specs.Pieces.{Piece, Gap, Word, Opens, Closes, opens, pieces, with_byte}
use Rattle.ls_schedule.specs.Passing.{word_len}
use Rattle.ls_schedule.specs.Reading.{Turns, each, followed_by, group_schedule, repeated, steps_in, steps_of, turns_of}
use Rattle.ls_schedule.specs.Reading.{within, ◌>>=◌}
use Rattle.ls_schedule.proofs.Fronts.{at_byte, at_gap, front}
use Rattle.ls_schedule.proofs.Spoilt.{broken, content_of, outside_all, spoilt}
use Rattle.ls_schedule.proofs.Words.{NoGroups}

-- ---- its pieces are gaps and words

abbrev Plain : List Piece → Type 0
Plain [] = Unit {0}
Plain (Gap ∷ ps) = Plain ps
Plain (Word at bytes ∷ ps) = Plain ps
Plain (Opens at ∷ ps) = ⊥
Plain (Closes at after ∷ ps) = ⊥

abbrev words : List Piece → List Item
words [] = []
words (Gap ∷ ps) = words ps
words (Word at bytes ∷ ps) = (at, bytes) ∷ words ps
words (Opens at ∷ ps) = words ps
words (Closes at after ∷ ps) = words ps

byte_plain : (at b : ℕ) (ps : List Piece) → Plain ps → Plain (with_byte at b ps)
byte_plain at b [] h = tt
byte_plain at b (Gap ∷ ps) h = h
byte_plain at b (Word next bytes ∷ ps) h = h
byte_plain at b (Opens next ∷ ps) h = absurd h
byte_plain at b (Closes next after ∷ ps) h = absurd h

-- they are the items
abbrev Divided : ℕ → List ℕ → Type 0
Divided at bs = Plain (pieces at bs) × (words (pieces at bs) ≡ items at bs)

-- a byte before a text
byte_words : (at b : ℕ) (bs : List ℕ) → NoGroups bs → words (pieces (at + 1) bs) ≡ items (at + 1) bs
    → words (with_byte at b (pieces (at + 1) bs)) ≡ before_items at b bs (items (at + 1) bs)
byte_words at b [] n h = refl
byte_words at b (c ∷ cs) n h =
    let is : List Item = items (at + 1) (c ∷ cs) in
    elim (cases_Bool (is_gap c)) [
      | inl g ↦
          let p : pieces (at + 1) (c ∷ cs) ≡ Gap ∷ pieces (at + 1 + 1) cs = at_gap (at + 1) c cs g in
          ap (λ ps. words (with_byte at b ps)) p ∙ ap (λ l. (at, b ∷ []) ∷ l) (ap words (sym p) ∙ h)
          ∙ sym (ap (λ t. cond t ((at, b ∷ []) ∷ is) (joined at b is)) g)
      | inr g ↦
          let m : ℕ = word_len cs in
          let more : List Piece = pieces (at + 1 + 1 + m) (drop m cs) in
          let p : pieces (at + 1) (c ∷ cs) ≡ Word (at + 1) (c ∷ take m cs) ∷ more = at_byte (at + 1) c cs g n.0.0 n.0.1
          ∙ (front (at + 1 + 1) cs (at + 1) c).0 in
          ap (λ ps. words (with_byte at b ps)) p ∙ ap (joined at b) (ap words (sym p) ∙ h)
          ∙ sym (ap (λ t. cond t ((at, b ∷ []) ∷ is) (joined at b is)) g)
    ]

divided : (at : ℕ) (bs : List ℕ) → NoGroups bs → Divided at bs
divided at [] n = (tt, refl)
divided at (b ∷ bs) n =
    let more : Divided (at + 1) bs = divided (at + 1) bs n.1 in
    let is : List Item = items (at + 1) bs in
    elim (cases_Bool (is_gap b)) [
      | inl g ↦
          let p : pieces at (b ∷ bs) ≡ Gap ∷ pieces (at + 1) bs = at_gap at b bs g in
          (subst Plain (sym p) more.0, ap words p ∙ more.1 ∙ sym (ap (λ t. cond t is (before_items at b bs is)) g))
      | inr g ↦
          let p : pieces at (b ∷ bs) ≡ with_byte at b (pieces (at + 1) bs) = at_byte at b bs g n.0.0 n.0.1 in (
            subst Plain (sym p) (byte_plain at b (pieces (at + 1) bs) more.0),
            ap words p ∙ byte_words at b bs n.1 more.1 ∙ sym (ap (λ t. cond t is (before_items at b bs is)) g),
          )
    ]

-- ---- their steps

no_opening : (ps : List Piece) → Plain ps → opens ps ≡ false
no_opening [] h = refl
no_opening (Gap ∷ ps) h = refl
no_opening (Word at bytes ∷ ps) h = refl
no_opening (Opens at ∷ ps) h = absurd h
no_opening (Closes at after ∷ ps) h = refl

abbrev Steps : List (List ℕ) → List Piece → Type 0
Steps names ps = (filled : Bool) (now : List ℕ)
    → steps_in names [] (content_of filled now) ps ≡ (each (turns_of names) (words ps) >>= λ turns.
    Ok (now ++ steps_of turns))

by_word : (names : List (List ℕ)) (filled : Bool) (now : List ℕ) (ps : List Piece) (x : Result Turns ScheduleFault) →
    Steps names ps
    → steps_in names [] (followed_by (content_of filled now) (x >>= λ p. Ok (repeated p.1 p.0))) ps
    ≡ ((x >>= λ y. each (turns_of names) (words ps) >>= λ ys. Ok (y ∷ ys)) >>= λ turns. Ok (now ++ steps_of turns))
by_word names filled now ps (Err e) more = spoilt names [] [] (broken e) e ps (omega arith) refl ∙
    ap (λ f. Err f) (outside_all e ps)
by_word names filled now ps (Ok p) more = more true (now ++ repeated p.1 p.0) ∙ joins (each (turns_of names) (words ps))
  where
    joins : (r : Result (List Turns) ScheduleFault)
        → (r >>= λ turns. Ok ((now ++ repeated p.1 p.0) ++ steps_of turns)) ≡
        ((r >>= λ ys. Ok (p ∷ ys)) >>= λ turns. Ok (now ++ steps_of turns))
    joins (Err e) = refl
    joins (Ok ys) = ap (λ l. Ok l) (append_assoc now (repeated p.1 p.0) (steps_of ys))

plain_steps : (names : List (List ℕ)) (ps : List Piece) → Plain ps → Steps names ps
plain_steps names [] h filled now = ap (λ l. Ok l) (sym (append-nil now))
plain_steps names (Gap ∷ ps) h filled now = plain_steps names ps h filled now
plain_steps names (Word at bytes ∷ ps) h filled now =
    ap (λ b. steps_in names [] (followed_by (content_of filled now)
    ((if b then Err (fault.BadItem at) else turns_of names (at, bytes)) >>= λ p. Ok (repeated p.1 p.0))) ps)
    (no_opening ps h)
    ∙ by_word names filled now ps (turns_of names (at, bytes)) (plain_steps names ps h)
plain_steps names (Opens at ∷ ps) h filled now = absurd h
plain_steps names (Closes at after ∷ ps) h filled now = absurd h

bind_both : (r : Result (List Turns) ScheduleFault) →
    ((r >>= λ turns. Ok (steps_of turns)) >>= within) ≡ (r >>= λ turns. within (steps_of turns))
bind_both (Ok turns) = refl
bind_both (Err e) = refl

pub without_groups : (names : List (List ℕ)) (at : ℕ) (text : List ℕ) → NoGroups text
    → group_schedule names (pieces at text) ≡ (each (turns_of names) (items at text) >>= λ turns.
    within (steps_of turns))
without_groups names at text n =
    let d = divided at text n in
    ap (λ x. x >>= within) (plain_steps names (pieces at text) d.0 false []) ∙
    bind_both (each (turns_of names) (words (pieces at text)))
    ∙ ap (λ is. each (turns_of names) is >>= λ turns. within (steps_of turns)) d.1
