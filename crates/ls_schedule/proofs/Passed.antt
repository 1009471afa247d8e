-- What the methods of a reader answer of one piece, by what they call.
use Rattle.std.proofs.Common.{◌≡◌, ◌∙◌, ◌+◌, ◌<◌, ◌≤◌, ℕ, Bool, true, false, List, [], ◌∷◌, ◌++◌, length, take, drop}
use Rattle.std.proofs.Common.{get_or, Option, Some, Result, Ok, Err, refl, sym, ap, arith}
use Rattle.std.specs.Prelude.{reverse}
use Rattle.ls_schedule.specs.declared.fault.ScheduleFault.{ScheduleFault}
use Rattle.ls_schedule.specs.declared.fault.ScheduleFault.TheVariants as fault
use Rattle.ls_schedule.specs.declared.groups.Opened.{Opened}
use Rattle.ls_schedule.specs.declared.groups.Reader.{Reader}
use Rattle.ls_schedule.specs.Answers.{more_steps, so_far}
use Rattle.ls_schedule.specs.Pieces.{ends_word, pieces}
use Rattle.ls_schedule.specs.Reading.{Turns, group_schedule}
use Rattle.ls_schedule.specs.Passing.{again, begins_group, capped_item, finished, goes, going, group_count, kept_len}
use Rattle.ls_schedule.specs.Passing.{last_first, outer_fault, places, times_here, word_len}
use Rattle.ls_schedule.proofs.Fronts.{first_word}
use Rattle.ls_schedule.proofs.OnePass.{passed}
use Rattle.ls_schedule.proofs.Passes.{closing_fault, closing_on, opening_full, opening_on, stray, word_fault, word_on}

-- the first fault, of these groups or of what follows
abbrev pub outermost : List Opened → ScheduleFault → List ℕ → ScheduleFault
outermost os e bs = outer_fault (last_first (places os) (length os)) 0 e bs

module _ (names : List (List ℕ)) (os : List Opened) (filled : Bool) (s : Option (List ℕ)) (at : ℕ) (text : List ℕ)
    (some : 0 < length text) where
  pub opening_passes : (now : List Opened) (now_filled : Bool) (now_s : Option (List ℕ)) →
      get_or text 0 0 ≡ 40 →
      length os < 8
      → now ≡ os ++ (record { at = at; from = kept_len s }) ∷ [] → now_filled ≡ false → now_s ≡ s
      → goes names (reverse now) now_filled now_s (pieces (at + 1) (drop 1 text)) ≡ goes names (reverse os) filled s
      (pieces at text)
  opening_passes now now_filled now_s first lt o f h =
      ap (λ l. goes names (reverse l) now_filled now_s (pieces (at + 1) (drop 1 text))) o
      ∙ ap (λ b. goes names (reverse (os ++ (record { at = at; from = kept_len s }) ∷ [])) b now_s
      (pieces (at + 1) (drop 1 text))) f
      ∙ ap (λ x. goes names (reverse (os ++ (record { at = at; from = kept_len s }) ∷ [])) false x
      (pieces (at + 1) (drop 1 text))) h
      ∙ opening_on names os filled s at text some (record { at = at; from = kept_len s }) first lt refl

  pub opening_fails : (gs : List Opened) (e : ScheduleFault) →
      get_or text 0 0 ≡ 40 →
      8 ≤ length os →
      gs ≡ os →
      e ≡ outermost gs (fault.BadItem at) text
      → goes names (reverse os) filled s (pieces at text) ≡ Err e
  opening_fails gs e first ge g is =
      opening_full names os filled s at text some first ge ∙ ap (λ l. Err (outermost l (fault.BadItem at) text)) (sym g)
      ∙ ap (λ f. Err f) (sym is)

  module _ (len : ℕ) (word next : List ℕ) (joined : Bool) (first : ends_word (get_or text 0 0) ≡ false)
      (l : len ≡ word_len text) (w : word ≡ take len text) (n : next ≡ drop len text)
      (j : joined ≡ begins_group next) where
    item_is : capped_item names at (take (word_len text) text) (begins_group (drop (word_len text) text)) ≡ capped_item
        names at word joined
    item_is =
        ap (λ k. capped_item names at (take k text) (begins_group (drop k text))) (sym l)
        ∙ ap (λ x. capped_item names at x (begins_group (drop len text))) (sym w)
        ∙ ap (λ x. capped_item names at word (begins_group x)) (sym n)
        ∙ ap (capped_item names at word) (sym j)

    pub word_passes : (now : List Opened) (now_filled : Bool) (now_s : Option (List ℕ)) (t : Turns) →
        capped_item names at word joined ≡ Ok t →
        now ≡ os →
        now_filled ≡ true
        → now_s ≡ more_steps s t.0 t.1
        → (goes names (reverse now) now_filled now_s (pieces (at + len) (drop len text)) ≡ goes names (reverse os)
        filled s (pieces at text)) × (0 < len)
    word_passes now now_filled now_s t is o f h = (
      ap (λ x. goes names (reverse x) now_filled now_s (pieces (at + len) (drop len text))) o
          ∙ ap (λ b. goes names (reverse os) b now_s (pieces (at + len) (drop len text))) f
          ∙ ap (λ x. goes names (reverse os) true x (pieces (at + len) (drop len text))) h
          ∙ ap (λ k. goes names (reverse os) true (more_steps s t.0 t.1) (pieces (at + k) (drop k text))) l
          ∙ word_on names os filled s at text some t first (item_is ∙ is),
      omega (arith, l, (first_word at text some first).0),
    )

    pub word_fails : (gs : List Opened) (e d : ScheduleFault) →
        capped_item names at word joined ≡ Err d →
        gs ≡ os →
        e ≡ outermost gs d next
        → goes names (reverse os) filled s (pieces at text) ≡ Err e
    word_fails gs e d is g found =
        word_fault names os filled s at text some d first (item_is ∙ is)
        ∙ ap (λ k. Err (outermost os d (drop k text))) (sym l)
        ∙ ap (λ x. Err (outermost os d x)) (sym n)
        ∙ ap (λ x. Err (outermost x d next)) (sym g) ∙ ap (λ f. Err f) (sym found)

  module _ (len : ℕ) (after next : List ℕ) (o : Opened) (before : List Opened) (first : get_or text 0 0 ≡ 41)
      (popped : before ≡ os ++ o ∷ []) (a : after ≡ drop 1 text)
      (l : len ≡ word_len after) (n : next ≡ drop len after) where
    count_is : group_count filled o.at (times_here (drop 1 text)) ≡ group_count filled o.at (times_here after)
    count_is = ap (λ x. group_count filled o.at (times_here x)) (sym a)

    len_is : word_len (drop 1 text) ≡ len
    len_is = ap word_len (sym a) ∙ sym l

    pub closing_passes : (now : List Opened) (now_filled : Bool) (now_s : Option (List ℕ)) (count : ℕ) →
        group_count filled o.at (times_here after) ≡ Ok count →
        now ≡ os
        → now_filled ≡ true → now_s ≡ again s o.from count
        → goes names (reverse now) now_filled now_s (pieces (at + (len + 1)) (drop (len + 1) text)) ≡ goes names
        (reverse before) filled s (pieces at text)
    closing_passes now now_filled now_s count is e f h =
        ap (λ x. goes names (reverse x) now_filled now_s (pieces (at + (len + 1)) (drop (len + 1) text))) e
        ∙ ap (λ b. goes names (reverse os) b now_s (pieces (at + (len + 1)) (drop (len + 1) text))) f
        ∙ ap (λ x. goes names (reverse os) true x (pieces (at + (len + 1)) (drop (len + 1) text))) h
        ∙ ap (λ k. goes names (reverse os) true (again s o.from count) (pieces (at + (k + 1)) (drop (k + 1) text)))
        (sym len_is)
        ∙ closing_on names os filled s at text some o count first (count_is ∙ is)
        ∙ ap (λ x. goes names (reverse x) filled s (pieces at text)) (sym popped)

    pub closing_fails : (gs : List Opened) (e d : ScheduleFault) →
        group_count filled o.at (times_here after) ≡ Err d →
        gs ≡ os →
        e ≡ outermost gs d next
        → goes names (reverse before) filled s (pieces at text) ≡ Err e
    closing_fails gs e d is g found =
        ap (λ x. goes names (reverse x) filled s (pieces at text)) popped
        ∙ closing_fault names os filled s at text some o d first (count_is ∙ is)
        ∙ ap (λ k. Err (outermost os d (drop k (drop 1 text)))) len_is
        ∙ ap (λ x. Err (outermost os d (drop len x))) (sym a)
        ∙ ap (λ x. Err (outermost os d x)) (sym n)
        ∙ ap (λ x. Err (outermost x d next)) (sym g) ∙ ap (λ f. Err f) (sym found)

  pub stray_fails : (before : List Opened) →
      get_or text 0 0 ≡ 41 →
      before ≡ [] →
      goes names (reverse before) filled s (pieces at text) ≡ Err (fault.BadItem at)
  stray_fails before first none = stray names before filled s at text some first none

-- before the text
pub begun : (names : List (List ℕ)) (r : Reader) (at : ℕ) (text rest : List ℕ) →
    r.open_groups.items ≡ [] →
    r.filled ≡ false →
    r.fits ≡ true →
    r.schedule ≡ [] →
    rest ≡ drop at text
    → going names r (pieces at rest) ≡ group_schedule names (pieces at (drop at text))
begun names r at text rest none empty fits nothing is =
    ap (λ l. going names r (pieces at l)) is ∙ ap (λ os. goes names (reverse os) r.filled (so_far r.fits r.schedule)
    (pieces at (drop at text))) none
    ∙ ap (λ b. goes names [] b (so_far r.fits r.schedule) (pieces at (drop at text))) empty
    ∙ ap (λ b. goes names [] false (so_far b r.schedule) (pieces at (drop at text))) fits
    ∙ ap (λ l. goes names [] false (Some l) (pieces at (drop at text))) nothing
    ∙ passed names (pieces at (drop at text))

-- at the end of the text
pub finished_is : (names : List (List ℕ)) (r : Reader) (at : ℕ) (text : List ℕ) →
    length text ≡ 0 →
    (all : Result (List ℕ) ScheduleFault) →
    going names r (pieces at text) ≡ all
    → finished (reverse r.open_groups.items) (so_far r.fits r.schedule) ≡ all
finished_is names r at [] none all h = h
finished_is names r at (b ∷ bs) none all h = absurd (omega arith)
