-- Lines of words, where the text grows or one more word comes.
use Rattle.std.proofs.Common.{ℕ, ◌≡◌, ◌∙◌, ◌≤◌, ◌<◌, ◌+◌, List, [], ◌∷◌, ◌++◌, take, length, ap, sym, refl, subst}
use Rattle.std.proofs.Common.{◌-◌, arith, drop, length-append}
use Rattle.std.proofs.Math.Seq.{take-add, take-append_seam}
use Rattle.std.proofs.lemmas.List.{take-append-le, take_min}
use Rattle.std.proofs.lemmas.List.Sums.{count_by-le-length, sum_by-append}
use Rattle.std.specs.Prelude.{cond, min, string_bytes}
use Rattle.ls_java_output.specs.Lines.{AreOnLines, IsKept, ends_before, ends_in, is_feed, last_line, line_of_word}
use Rattle.ls_java_output.specs.Places.{AreInOrder}
use Rattle.ls_java_output.specs.declared.kept.KeptPage.{KeptPage}
use Rattle.ls_java_output.specs.declared.place.Place.{Place}
use Rattle.ls_java_output.proofs.Orders.{longer, one_more}

-- the lines of two texts, one after the other
pub ends_append : (xs ys : List ℕ) → ends_in (xs ++ ys) ≡ ends_in xs + ends_in ys
ends_append xs ys = sum_by-append (λ b. cond (is_feed b) 1 0) xs ys

-- before a byte of a text as many lines end as in a longer one
before_longer : (at : ℕ) (xs ys : List ℕ) → at ≤ length xs → ends_before at (xs ++ ys) ≡ ends_before at xs
before_longer at xs ys within = ap ends_in (take-append-le at xs ys within)

-- and before its end as many as in all of it
before_end : (xs ys : List ℕ) → ends_before (length xs) (xs ++ ys) ≡ ends_in xs
before_end xs ys = ap ends_in (take-append_seam xs ys)

append_nothing : (xs : List ℕ) → xs ++ [] ≡ xs
append_nothing [] = refl
append_nothing (x ∷ xs) = ap (λ ys. x ∷ ys) (append_nothing xs)

before_all : (xs : List ℕ) → ends_before (length xs) xs ≡ ends_in xs
before_all xs = ap (ends_before (length xs)) (sym (append_nothing xs)) ∙ before_end xs []

-- places in order don't go back
goes_up : (tokens from : ℕ) (ps : List Place) (upto : ℕ) → AreInOrder tokens from ps upto → from ≤ upto
goes_up tokens from [] upto order = order
goes_up tokens from (p ∷ ps) upto (low, high, token, order) =
    let rest : p.end ≤ upto = goes_up tokens p.end ps upto order in
    omega (arith, low, high, rest)

-- more text
lines_longer : (java xs ys : List ℕ) (tokens from here : ℕ) (ps : List Place) →
    AreInOrder tokens from ps (length xs) →
    AreOnLines java xs here ps →
    AreOnLines java (xs ++ ys) here ps
lines_longer java xs ys tokens from here [] order lines = lines
lines_longer java xs ys tokens from here (p ∷ ps) (low, high, token, order) (line, lines) =
    let end : p.end ≤ length xs = goes_up tokens p.end ps (length xs) order in
    let start : p.start ≤ length xs = omega (arith, high, end) in (
      before_longer p.start xs ys start ∙ line,
      subst (λ h. AreOnLines java (xs ++ ys) h ps) (sym (before_longer p.end xs ys end))
          (lines_longer java xs ys tokens p.end (ends_before p.end xs) ps order lines),
    )

last_longer : (xs ys : List ℕ) (tokens from here : ℕ) (ps : List Place) →
    AreInOrder tokens from ps (length xs) →
    last_line (xs ++ ys) here ps ≡ last_line xs here ps
last_longer xs ys tokens from here [] order = refl
last_longer xs ys tokens from here (p ∷ ps) (low, high, token, order) =
    let end : p.end ≤ length xs = goes_up tokens p.end ps (length xs) order in
    ap (λ h. last_line (xs ++ ys) h ps) (before_longer p.end xs ys end)
    ∙ last_longer xs ys tokens p.end (ends_before p.end xs) ps order

-- one more word
one_more_line : (java xs : List ℕ) (here : ℕ) (ps : List Place) (p : Place) →
    AreOnLines java xs here ps →
    ends_before p.start xs ≡ line_of_word java (last_line xs here ps) p.at p.goes →
    AreOnLines java xs here (ps ++ p ∷ [])
one_more_line java xs here [] p lines e = (e, tt)
one_more_line java xs here (q ∷ ps) p (line, lines) e =
    (line, one_more_line java xs (ends_before q.end xs) ps p lines e)

last_more : (xs : List ℕ) (here : ℕ) (ps : List Place) (p : Place) →
    last_line xs here (ps ++ p ∷ []) ≡ ends_before p.end xs
last_more xs here [] p = refl
last_more xs here (q ∷ ps) p = last_more xs (ends_before q.end xs) ps p

-- more text on a page
pub kept_more : (java : List ℕ) (tokens : ℕ) (old new : KeptPage) (more : List ℕ) →
    IsKept java tokens old →
    string_bytes new.text ≡ string_bytes old.text ++ more →
    new.line ≡ old.line + ends_in more →
    new.places.items ≡ old.places.items →
    new.here ≡ old.here →
    IsKept java tokens new
kept_more java tokens old new more kept text line places here =
    let xs = string_bytes old.text in
    let longer_text : length xs ≤ length (xs ++ more) = omega (arith, length-append xs more) in
    let lines : AreOnLines java (xs ++ more) 0 old.places.items =
    lines_longer java xs more tokens 0 0 old.places.items kept.order kept.lines in
    let order : AreInOrder tokens 0 old.places.items (length (xs ++ more)) =
    longer tokens 0 old.places.items (length xs) (length (xs ++ more)) kept.order longer_text in
    record {
      line = line ∙ ap (λ n. n + ends_in more) kept.line ∙ sym (ends_append xs more) ∙ ap ends_in (sym text);
      order = subst (λ t. AreInOrder tokens 0 new.places.items (length t)) (sym text)
          (subst (λ ps. AreInOrder tokens 0 ps (length (xs ++ more))) (sym places) order);
      lines = subst (λ t. AreOnLines java t 0 new.places.items) (sym text)
          (subst (λ ps. AreOnLines java (xs ++ more) 0 ps) (sym places) lines);
      here = here ∙ kept.here ∙ sym (last_longer xs more tokens 0 0 old.places.items kept.order)
          ∙ ap (last_line (xs ++ more) 0) (sym places) ∙ ap (λ t. last_line t 0 new.places.items) (sym text);
    }

-- one more word on a page
pub kept_word : (java : List ℕ) (tokens : ℕ) (old mid new : KeptPage) (word : List ℕ) (p : Place) →
    IsKept java tokens old →
    IsKept java tokens mid →
    string_bytes mid.text ≡ string_bytes old.text ++ word →
    mid.places.items ≡ old.places.items →
    mid.here ≡ old.here →
    p.start ≡ length (string_bytes old.text) →
    p.end ≡ length (string_bytes mid.text) →
    p.token < tokens →
    old.line ≡ line_of_word java old.here p.at p.goes →
    string_bytes new.text ≡ string_bytes mid.text →
    new.line ≡ mid.line →
    new.places.items ≡ mid.places.items ++ p ∷ [] →
    new.here ≡ mid.line →
    IsKept java tokens new
kept_word java tokens old mid new word p was kept text places same start end token goes text' line' places' here' =
    let xs = string_bytes old.text in
    let ys = string_bytes mid.text in
    let ps = mid.places.items in
    let grows : length xs ≤ length ys = omega (arith, length-append xs word, ap length text) in
    let begin : ends_before p.start ys ≡ old.line =
    ap (λ n. ends_before n ys) start ∙ ap (ends_before (length xs)) text ∙ before_end xs word ∙ sym was.line in
    let last : old.here ≡ last_line ys 0 ps = sym same ∙ kept.here in
    let goes_on : ends_before p.start ys ≡ line_of_word java (last_line ys 0 ps) p.at p.goes =
    begin ∙ goes ∙ ap (λ h. line_of_word java h p.at p.goes) last in
    let before : AreInOrder tokens 0 ps (length xs) =
    subst (λ qs. AreInOrder tokens 0 qs (length xs)) (sym places) was.order in
    let order : AreInOrder tokens 0 (ps ++ p ∷ []) (length ys) =
    one_more tokens 0 ps (length xs) p (length ys) before (omega (arith, start)) (omega (arith, start, end, grows))
    token (omega (arith, end)) in
    record {
      line = line' ∙ kept.line ∙ ap ends_in (sym text');
      order = subst (λ t. AreInOrder tokens 0 new.places.items (length t)) (sym text')
          (subst (λ qs. AreInOrder tokens 0 qs (length ys)) (sym places') order);
      lines = subst (λ t. AreOnLines java t 0 new.places.items) (sym text')
          (subst (λ qs. AreOnLines java ys 0 qs) (sym places') (one_more_line java ys 0 ps p kept.lines goes_on));
      here = here' ∙ kept.line ∙ sym (before_all ys) ∙ ap (λ n. ends_before n ys) (sym end)
          ∙ sym (last_more ys 0 ps p) ∙ ap (last_line ys 0) (sym places')
          ∙ ap (λ t. last_line t 0 new.places.items) (sym text');
    }

-- before a byte as many lines end as before an earlier one and between the two
pub ends_split : (from upto : ℕ) (xs : List ℕ) →
    from ≤ upto →
    ends_before upto xs ≡ ends_before from xs + ends_in (take (upto - from) (drop from xs))
ends_split from upto xs within =
    let e : upto ≡ from + (upto - from) = omega arith in
    ap (λ n. ends_before n xs) e ∙ ap ends_in (take-add from (upto - from) xs)
    ∙ ends_append (take from xs) (take (upto - from) (drop from xs))

-- a byte past the end counts as the end
pub ends_capped : (at : ℕ) (xs : List ℕ) → ends_before (min at (length xs)) xs ≡ ends_before at xs
ends_capped at xs = ap ends_in (take_min at xs)

-- no more lines end than there are bytes
pub ends_within : (xs : List ℕ) → ends_in xs ≤ length xs
ends_within xs = count_by-le-length is_feed xs
