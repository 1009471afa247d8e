-- Items of one byte that a gap follows, as a table reads them.
use Rattle.ls_events.specs.Limits.{most_steps}
use Rattle.std.proofs.Common.{◌≡◌, ◌≢◌, ◌∙◌, ◌+◌, ◌<◌, ◌≤◌, ℕ, zero, suc, Bool, true, false, cond, List, [], ◌∷◌, ◌++◌}
use Rattle.std.proofs.Common.{length, drop, get_or, replicate, Option, Some, None, Ok, Err, refl, sym, ap, subst, arith}
use Rattle.std.proofs.Common.{⊎_elim}
use Rattle.std.specs.Prelude.{◌||◌, ◌==◌, reverse, slice_index, if◌then◌else◌}
use Rattle.std.proofs.lemmas.Bool.{cases_eq, le-ltb, lt-ltb, true≢false}
use Rattle.std.proofs.lemmas.List.{get_or-replicate, length-append}
use Rattle.ls_items.specs.Items.{Item, is_gap, items, joined, with_byte}
use Rattle.ls_schedule.specs.declared.fault.ScheduleFault.TheVariants as fault
use Rattle.ls_schedule.specs.declared.groups.Opened.{Opened}
use Rattle.ls_schedule.specs.Answers.{capped, capped_turns, more_steps}
use Rattle.ls_schedule.specs.Passing.{first_fault, goes, or_fault, places}
use Rattle.ls_schedule.specs.Pieces as spelled
use Rattle.ls_schedule.specs.Pieces.{Piece, Gap, Word, ends_word, pieces}
use Rattle.ls_schedule.specs.Reading.{Turns, counted, known, parts_of, repeated, threads_named, ◌>>=◌}
use Rattle.ls_schedule.specs.Table.{IsShort, IsTable}
use Rattle.ls_schedule.proofs.Fronts.{at_byte, at_gap}
use Rattle.ls_lexer.specs.Names.{is_name}

-- ---- an item at another place

named : (b : Bool) (ts : Option (List ℕ)) (at place n : ℕ) (p : Turns)
    → ((if b then known at ts n else Err (fault.BadItem at)) >>= λ q. Ok (capped q)) ≡ Ok p
    → ((if b then known place ts n else Err (fault.BadItem place)) >>= λ q. Ok (capped q)) ≡ Ok p
named false ts at place n p h = absurd cc
named true None at place n p h = absurd cc
named true (Some ts) at place n p h = h

with_count : (names : List (List ℕ)) (at place : ℕ) (name : List ℕ) (count : Option ℕ) (p : Turns)
    → (counted names at name count >>= λ q. Ok (capped q)) ≡ Ok p →
    (counted names place name count >>= λ q. Ok (capped q)) ≡ Ok p
with_count names at place name None p h = absurd cc
with_count names at place name (Some n) p h = named (is_name name) (threads_named names name) at place n p h

-- what an item says where it is read, it says at each place
pub anywhere : (names : List (List ℕ)) (at place : ℕ) (item : List ℕ) (p : Turns) →
    capped_turns names (at, item) ≡ Ok p →
    capped_turns names (place, item) ≡ Ok p
anywhere names at place item p h = with_count names at place (parts_of item).0 (parts_of item).1 p h

-- ---- tables

pub none_entered : (names : List (List ℕ)) → IsTable names (replicate 256 255)
none_entered names b l entry =
    let nobody : ℕ = 255 in
    let none : ℕ = 0 in
    let is : get_or (replicate 256 nobody) b none ≡ nobody = get_or-replicate 256 b nobody none l in
    absurd (omega (arith, entry, is))

-- one entry more
pub entered : (names : List (List ℕ)) (old new : List ℕ) (byte t : ℕ) →
    IsTable names old →
    ends_word byte ≡ false →
    ((at : ℕ) → capped_turns names (at, byte ∷ []) ≡ Ok (t ∷ [], 1))
    → slice_index new byte ≡ t → ((b : ℕ) → b ≢ byte → slice_index new b ≡ slice_index old b) → IsTable names new
entered names old new byte t table ends says is_set others b l entry = ⊎_elim
    (λ here. (
      ap ends_word here ∙ ends,
      λ at. ap (λ x. capped_turns names (at, x ∷ [])) here ∙ says at ∙
          ap (λ x. Ok (x ∷ [], 1)) (sym (ap (slice_index new) here ∙ is_set)),
    ))
    (λ other.
    let same = others b other in
    let before = table b l (subst (λ x. x < 255) same entry) in
    (before.0, λ at. before.1 at ∙ ap (λ x. Ok (x ∷ [], 1)) (sym same)))
    (cases_eq b byte)

-- ---- the first bytes of a text

or_none : (x y : Bool) → (x || y) ≡ false → (x ≡ false) × (y ≡ false)
or_none true y h = absurd (true≢false h)
or_none false y h = (refl, h)

pub short_items : (at : ℕ) (text : List ℕ) →
    2 ≤ length text →
    ends_word (slice_index text 0) ≡ false →
    is_gap (slice_index text 1) ≡ true
    → items at text ≡ (at, slice_index text 0 ∷ []) ∷ items (at + 2) (drop 2 text)
short_items at [] two ends gap = absurd (omega arith)
short_items at (b ∷ []) two ends gap = absurd (omega arith)
short_items at (b ∷ c ∷ bs) two ends gap =
    let more : List Item = items (at + 1) (c ∷ bs) in
    let place : at + 1 + 1 ≡ at + 2 = omega arith in
    let after : more ≡ items (at + 2) bs =
    ap (λ t. cond t (items (at + 1 + 1) bs) (with_byte (at + 1) c bs (items (at + 1 + 1) bs))) gap ∙
    ap (λ k. items k bs) place in
    ap (λ t. cond t more (with_byte at b (c ∷ bs) more)) (or_none (is_gap b) (b == 40 || b == 41) ends).0
    ∙ ap (λ t. cond t ((at, b ∷ []) ∷ more) (joined at b more)) gap ∙ ap (λ l. (at, b ∷ []) ∷ l) after

pub short_pieces : (at : ℕ) (text : List ℕ) →
    2 ≤ length text →
    ends_word (slice_index text 0) ≡ false →
    is_gap (slice_index text 1) ≡ true
    → pieces at text ≡ Word at (slice_index text 0 ∷ []) ∷ Gap ∷ pieces (at + 2) (drop 2 text)
short_pieces at [] two ends gap = absurd (omega arith)
short_pieces at (b ∷ []) two ends gap = absurd (omega arith)
short_pieces at (b ∷ c ∷ bs) two ends gap =
    let p = or_none (is_gap b) (b == 40 || b == 41) ends in
    let q = or_none (b == 40) (b == 41) p.1 in
    let place : at + 1 + 1 ≡ at + 2 = omega arith in
    at_byte at b (c ∷ bs) p.0 q.0 q.1 ∙ ap (spelled.with_byte at b) (at_gap (at + 1) c bs gap) ∙
    ap (λ k. Word at (b ∷ []) ∷ Gap ∷ pieces k bs) place

-- ---- the steps so far

repeated_one : (n t : ℕ) → repeated n (t ∷ []) ≡ replicate n t
repeated_one zero t = refl
repeated_one (suc n) t = ap (λ l. t ∷ l) (repeated_one n t)

repeated_length : (n t : ℕ) → length (repeated n (t ∷ [])) ≡ n
repeated_length zero t = refl
repeated_length (suc n) t = ap (λ k. suc k) (repeated_length n t)

-- so many steps of a thread are too many, or fit
pub by_over : (steps : List ℕ) (t n : ℕ) → most_steps < length steps + n → None ≡ more_steps (Some steps) (t ∷ []) n
by_over steps t n over =
    let big : most_steps < length (steps ++ repeated n (t ∷ [])) = omega
    (arith, over, length-append steps (repeated n (t ∷ [])), repeated_length n t) in
    rw (lt-ltb _ _ big) refl

pub by_fits : (steps new : List ℕ) (t n : ℕ) →
    length steps + n ≤ most_steps →
    new ≡ steps ++ replicate n t →
    Some new ≡ more_steps (Some steps) (t ∷ []) n
by_fits steps new t n few is =
    let small : length (steps ++ repeated n (t ∷ [])) ≤ most_steps = omega
    (arith, few, length-append steps (repeated n (t ∷ [])), repeated_length n t) in
    rw (le-ltb _ _ small) (ap (λ l. Some l) (is ∙ ap (λ l. steps ++ l) (sym (repeated_one n t))))

-- ---- a pass

module _ (names : List (List ℕ)) (table : List ℕ) (text : List ℕ) (t : ℕ) (entries : IsTable names table)
    (short : IsShort table text t) where
  entry_is : (ends_word (slice_index text 0) ≡ false) × ((at : ℕ) →
      capped_turns names (at, slice_index text 0 ∷ []) ≡ Ok (t ∷ [], 1))
  entry_is =
      let p = entries (slice_index text 0) short.byte (subst (λ x. x < 255) short.entry short.known) in
      (p.0, λ at. p.1 at ∙ ap (λ x. Ok (x ∷ [], 1)) (sym short.entry))

  pub item_is : (at : ℕ) → capped_turns names (at, slice_index text 0 ∷ []) ≡ Ok (t ∷ [], 1)
  item_is at = entry_is.1 at

  pub items_are : (at : ℕ) → items at text ≡ (at, slice_index text 0 ∷ []) ∷ items (at + 2) (drop 2 text)
  items_are at = short_items at text short.two entry_is.0 short.gap

  pub short_on : (os : List Opened) (filled : Bool) (s : Option (List ℕ)) (at : ℕ)
      → goes names (reverse os) true (more_steps s (t ∷ []) 1) (pieces (at + 2) (drop 2 text)) ≡ goes names (reverse os)
      filled s (pieces at text)
  short_on os filled s at =
      let rest : List Piece = Gap ∷ pieces (at + 2) (drop 2 text) in
      sym (ap (goes names (reverse os) filled s) (short_pieces at text short.two entry_is.0 short.gap)
      ∙ ap (λ r. or_fault r (λ u. goes names (reverse os) true (more_steps s u.0 u.1) rest)
      (λ e. first_fault (places (reverse os)) 0 e rest)) (item_is at))
