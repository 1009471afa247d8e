-- The text of a row: its first line, its history and an empty line.
use Rattle.std.proofs.Common.{◌≡◌, ◌∙◌, ◌+◌, ◌<◌, ◌^◌, ◌==◌, ℕ, Bool, true, false, cond, not, List, [], ◌∷◌, ◌++◌}
use Rattle.std.proofs.Common.{Option, Some, None, codes, length, refl, sym, ap, subst, arith, append_assoc}
use Rattle.std.specs.Prelude.{option_map}
use Rattle.std.specs.Fmt.{decimal}
use Rattle.std.proofs.lemmas.Bool.{and_from, and_parts}
use Rattle.std.proofs.lemmas.List.{length-append}
use Rattle.ls_report.specs.Events.{Event, Text}
use Rattle.ls_report.specs.Discipline.{continues, is_next}
use Rattle.ls_report.specs.Lines.{event_text, history_text, line, occurrence_text}
use Rattle.ls_report.specs.Cut.{cut}
use Rattle.ls_report.proofs.CutLemmas.{first_of_two, lacks, lacks-append, lacks-decimal, none_is, second_of_two}
use Rattle.ls_report.proofs.CutLemmas.{some_is, Two, two}
use Rattle.ls_report.proofs.Histories.{bounded, bounded_push, line_cut, next_bound, next_is_well_formed}
use Rattle.ls_report.proofs.Unique.{short}
use Rattle.ls_tallies.specs.Printing.{head_text, row_text}
use Rattle.ls_tallies.specs.Tallies.{Row, row}
use Rattle.ls_tallies.specs.Blocks.{block_parts}
use Rattle.ls_tallies.specs.Heads.{head_line}
use Rattle.ls_tallies.proofs.BlockLemmas.{AreLines, NoLine, OneMore, parts_back}
use Rattle.ls_tallies.specs.Reading.{IsHistory}

head_feed : (r : Row) → head_text r ≡ head_line r.seed r.count ++ 10 ∷ []
head_feed r =
    let a = codes "seed " in
    let b = decimal r.seed in
    let c = codes " count " in
    let d = decimal r.count in
    sym (append_assoc a (b ++ (c ++ d)) (10 ∷ []) ∙ ap (λ t. a ++ t)
    (append_assoc b (c ++ d) (10 ∷ []) ∙ ap (λ t. b ++ t) (append_assoc c d (10 ∷ []))))

pub row_split : (r : Row) (after : Text) →
    row_text r ++ after ≡ head_line r.seed r.count ++ 10 ∷ (r.history ++ 10 ∷ after)
row_split r after =
    let head = head_line r.seed r.count in
    append_assoc (head_text r) (r.history ++ 10 ∷ []) after ∙
    ap (λ t. head_text r ++ t) (append_assoc r.history (10 ∷ []) after)
    ∙ ap (λ t. t ++ (r.history ++ 10 ∷ after)) (head_feed r) ∙ append_assoc head (10 ∷ []) (r.history ++ 10 ∷ after)

pub lacks-head : (s n : ℕ) → s < 2 ^ 64 → n < 2 ^ 64 → lacks 10 (head_line s n) ≡ true
lacks-head s n fits fits' =
    lacks-append 10 (codes "seed ") (decimal s ++ (codes " count " ++ decimal n)) refl
    (lacks-append 10 (decimal s) (codes " count " ++ decimal n) (lacks-decimal 10 s (λ m small same. omega arith) fits)
    (lacks-append 10 (codes " count ") (decimal n) refl (lacks-decimal 10 n (λ m small same. omega arith) fits')))

-- ---- a history's text is of lines, none of which is empty

cut_lacks : (bs x y : Text) → cut 10 bs ≡ two x y → lacks 10 x ≡ true
cut_lacks [] x y e = absurd (none_is e)
cut_lacks (c ∷ cs) x y e = go (c == 10) refl (cut 10 cs) (λ p q. cut_lacks cs p q) e
  where
    go : (t : Bool) → (c == 10) ≡ t → (o : Option Two) → ((p q : Text) → o ≡ two p q → lacks 10 p ≡ true)
        → cond t (two [] cs) (option_map (λ p. (c ∷ p.0, p.1)) o) ≡ two x y → lacks 10 x ≡ true
    go true s o next k = ap (lacks 10) (sym (first_of_two [] cs x y k))
    go false s None next k = absurd (none_is k)
    go false s (Some p) next k =
        ap (lacks 10) (sym (first_of_two (c ∷ p.0) p.1 x y k)) ∙
        and_from (not (c == 10)) (lacks 10 p.0) (ap not s) (next p.0 p.1 refl)

lines_of : (front es : List Event) →
    bounded (length front) front ≡ true →
    length front + length es < 2 ^ 63 →
    continues front es ≡ true →
    AreLines (history_text es)
lines_of front [] b small h = NoLine
lines_of front (e ∷ es) b small h =
    let p = and_parts (is_next front e) (continues (front ++ e ∷ []) es) h in
    let low = next_bound front e b p.0 in
    let fits : e.call < 2 ^ 64 = omega arith in
    let lack = cut_lacks (line e ++ []) (event_text e) [] (line_cut e [] (next_is_well_formed front e p.0) fits) in
    let long = length-append e.thread (46 ∷ (decimal e.call ++ (32 ∷ occurrence_text e.occurrence))) in
    let some : 0 < length (event_text e) = omega arith in
    let len = length-append front (e ∷ []) in
    let rest = lines_of (front ++ e ∷ []) es (bounded_push front e b p.0) (omega arith) p.1 in
    subst AreLines (sym (append_assoc (event_text e) (10 ∷ []) (history_text es)))
    (OneMore (event_text e) (history_text es) lack some rest)

pub history_lines : (text : Text) → length text < 2 ^ 64 → IsHistory text → AreLines text
history_lines text fits h =
    let es = h.0 in
    let low = short es in
    let len = ap length h.1.lines in
    subst AreLines (sym h.1.lines) (lines_of [] es refl (omega arith) h.1.history)

-- what is cut off behind a history
pub row_parts : (rest h after : Text) →
    length rest < 2 ^ 64 →
    IsHistory h →
    rest ≡ h ++ 10 ∷ after →
    block_parts rest ≡ two h after
row_parts rest h after fits is e =
    let len = ap length e in
    let sum = length-append h (10 ∷ after) in
    ap block_parts e ∙ parts_back h after (history_lines h (omega arith) is)

-- ---- what is answered

abbrev pub numbers : ℕ → ℕ → Option (ℕ × ℕ)
numbers s n = Some (s, n)

abbrev pub entry : Row → Text → Option (Row × Text)
entry r after = Some (r, after)

pub same_entry : (r : Row) (after h a : Text) (s n : ℕ) →
    numbers s n ≡ numbers r.seed r.count →
    two h a ≡ two r.history after →
    entry (row h n s) a ≡ entry r after
same_entry r after h a s n both parts =
    let f : ℕ × ℕ → ℕ = λ p. p.0 in
    let g : ℕ × ℕ → ℕ = λ p. p.1 in
    let seed : s ≡ r.seed = ap f (some_is both) in
    let count : n ≡ r.count = ap g (some_is both) in
    let history = first_of_two h a r.history after parts in
    let rest = second_of_two h a r.history after parts in
    λ i. entry (row (history i) (count i) (seed i)) (rest i)
