-- Rows that are read, one after the other.
use Rattle.std.proofs.Common.{◌≡◌, ◌∙◌, ◌+◌, ◌<◌, ℕ, true, false, List, [], ◌∷◌, ◌++◌, Option, Some, None, length}
use Rattle.std.proofs.Common.{get_or, drop, refl, sym, ap, subst, arith, true≢false, append_assoc, append-nil}
use Rattle.std.specs.Str.{bytes_eq}
use Rattle.std.proofs.lemmas.List.{length-append}
use Rattle.std.proofs.lemmas.Slice.Eq.{bytes_eq-Decides}
use Rattle.ls_report.specs.Events.{Text}
use Rattle.ls_report.specs.Cut.{cut}
use Rattle.ls_report.proofs.CutLemmas.{cut_at, cut_parts, first_of_two, none_is, second_of_two, some_is, two, without}
use Rattle.ls_tallies.specs.Printing.{row_text}
use Rattle.ls_tallies.specs.Tallies.{Row}
use Rattle.ls_tallies.specs.Heads.{head_line}
use Rattle.ls_tallies.specs.Reading.{BreaksAt, Ends, Entry, IsRow, Lists, mark, Marked}
use Rattle.ls_tallies.proofs.EntryLemmas.{lacks-head, row_split}

-- ---- one more at the end

lists_more : (read : Text) (rows : List Row) (r : Row) →
    Lists read rows →
    IsRow r →
    Lists (read ++ row_text r) (rows ++ r ∷ [])
lists_more read rows r Ends is = subst (λ t. Lists t (r ∷ [])) (append-nil (row_text r)) (Entry r [] [] is Ends)
lists_more read rows r (Marked after more l) is = Marked (after ++ row_text r) (more ++ r ∷ [])
    (lists_more after more r l is)
lists_more read rows r (Entry s after more it l) is =
    subst (λ t. Lists t (s ∷ (more ++ r ∷ []))) (sym (append_assoc (row_text s) after (row_text r)))
    (Entry s (after ++ row_text r) (more ++ r ∷ []) it (lists_more after more r l is))

lists_mark : (read : Text) (rows : List Row) → Lists read rows → Lists (read ++ mark) rows
lists_mark read rows Ends = Marked [] [] Ends
lists_mark read rows (Marked after more l) = Marked (after ++ mark) more (lists_mark after more l)
lists_mark read rows (Entry s after more it l) =
    subst (λ t. Lists t (s ∷ more)) (sym (append_assoc (row_text s) after mark))
    (Entry s (after ++ mark) more it (lists_mark after more l))

-- ---- what stands in front

two_signs : (b : ℕ) → b ≡ 115 → b ≡ 37 → ⊥
two_signs b e f = omega arith

-- a row begins with s, and a line `%%` doesn't
no_sign : (r : Row) (after other : Text) → row_text r ++ after ≡ mark ++ other → ⊥
no_sign r after other e = two_signs (get_or (row_text r ++ after) 0 0) refl (ap (λ (t : Text). get_or t 0 0) e)

some_text : (r : Row) (after : Text) → row_text r ++ after ≡ [] → ⊥
some_text r after e = let len = ap length (sym (row_split r after) ∙ e) in
    let sum = length-append (head_line r.seed r.count) (10 ∷ (r.history ++ 10 ∷ after)) in omega arith

unmark : (text after : Text) (more : List Row) → text ≡ mark ++ after → Lists text more → Lists after more
unmark text after more e Ends = absurd cc
unmark text after more e (Marked other rows l) = subst (λ t. Lists t more) (ap (drop 3) e) l
unmark text after more e (Entry r other rows is l) = absurd (no_sign r other after e)

-- no other row, with another text after it, begins the text
abbrev pub IsOnly : Text → Row → Text → Type 0
IsOnly text r after = (s : Row) (other : Text) → IsRow s → text ≡ row_text s ++ other → (s ≡ r) × (other ≡ after)

-- a text whose first row is known lists that one and others
record Begins (after : Text) (r : Row) (more : List Row) : Type 0 where
  others : List Row
  lists : Lists after others
  is : more ≡ r ∷ others

unentry : (text after : Text) (r : Row) (more : List Row) →
    text ≡ row_text r ++ after →
    IsOnly text r after →
    Lists text more →
    Begins after r more
unentry text after r more e only Ends = absurd (some_text r after (sym e))
unentry text after r more e only (Marked other rows l) = absurd (no_sign r after other (sym e))
unentry text after r more e only (Entry s other rows is l) =
    let same = only s other is refl in
    record { others = rows; lists = subst (λ t. Lists t rows) same.1 l; is = ap (λ x. x ∷ rows) same.0 }

pub lists_none : (text : Text) (more : List Row) → text ≡ [] → Lists text more → more ≡ []
lists_none text more e Ends = refl
lists_none text more e (Marked other rows l) = absurd cc
lists_none text more e (Entry s other rows is l) = absurd (some_text s other e)

lists_nothing : (text : Text) (more : List Row) → 0 < length text → ((after : Text) → text ≡ mark ++ after → ⊥)
    → ((r : Row) (after : Text) → IsRow r → text ≡ row_text r ++ after → ⊥) → Lists text more → ⊥
lists_nothing text more some no_mark no_row Ends = omega arith
lists_nothing text more some no_mark no_row (Marked other rows l) = no_mark other refl
lists_nothing text more some no_mark no_row (Entry s other rows is l) = no_row s other is refl

-- ---- reading on

-- where one row and one text are answered, there is no other
abbrev pub answered : Row → Text → Option (Row × Text)
answered r after = Some (r, after)

pub only_one : (r s : Row) (a b : Text) → answered r a ≡ answered s b → (s ≡ r) × (b ≡ a)
only_one r s a b e =
    let f : Row × Text → Row = λ p. p.0 in
    let g : Row × Text → Text = λ p. p.1 in
    (sym (ap f (some_is e)), sym (ap g (some_is e)))

pub nothing_left : (t : Text) → length t ≡ 0 → t ≡ []
nothing_left [] e = refl
nothing_left (b ∷ bs) e = absurd (omega arith)

-- The rows are those of what is read, and each list of the whole text's rows goes on with one of the rest's.
pub record IsReading (text rest : Text) (rows : List Row) : Type 0 where
  pub read : Text
  pub parts : text ≡ read ++ rest
  pub lists : Lists read rows
  pub left : (all : List Row) → Lists text all → (more : List Row) × Lists rest more × (all ≡ rows ++ more)

pub starts : (text : Text) → IsReading text text []
starts text = record { read = []; parts = refl; lists = Ends; left = λ all l. (all, l, refl) }

pub past_mark : (text rest after : Text) (rows : List Row) →
    IsReading text rest rows →
    rest ≡ mark ++ after →
    IsReading text after rows
past_mark text rest after rows i e = record {
  read = i.read ++ mark;
  parts = i.parts ∙ ap (λ t. i.read ++ t) e ∙ sym (append_assoc i.read mark after);
  lists = lists_mark i.read rows i.lists;
  left = λ all l. let q = i.left all l in (q.0, unmark rest after q.0 e q.1, q.2);
}

pub past_row : (text rest after : Text) (rows : List Row) (r : Row) →
    IsReading text rest rows →
    rest ≡ row_text r ++ after →
    IsRow r →
    IsOnly rest r after
    → IsReading text after (rows ++ r ∷ [])
past_row text rest after rows r i e is only = record {
  read = i.read ++ row_text r;
  parts = i.parts ∙ ap (λ t. i.read ++ t) e ∙ sym (append_assoc i.read (row_text r) after);
  lists = lists_more i.read rows r i.lists is;
  left = λ all l.
      let q = i.left all l in
      let b = unentry rest after r q.0 e only q.1 in
      (b.others, b.lists, q.2 ∙ ap (λ t. rows ++ t) b.is ∙ sym (append_assoc rows (r ∷ []) b.others));
}

pub all_read : (text rest : Text) (rows : List Row) → IsReading text rest rows → rest ≡ [] → Lists text rows
all_read text rest rows i e = subst (λ t. Lists t rows) (sym (i.parts ∙ ap (λ t. i.read ++ t) e ∙ append-nil i.read))
    i.lists

pub only_rows : (text rest : Text) (rows all : List Row) →
    IsReading text rest rows →
    rest ≡ [] →
    Lists text all →
    rows ≡ all
only_rows text rest rows all i e l =
    let q = i.left all l in
    sym (q.2 ∙ ap (λ t. rows ++ t) (lists_none rest q.0 e q.1) ∙ append-nil rows)

-- where neither a line `%%` nor a row stands
pub record IsStopped (rest : Text) : Type 0 where
  pub some : 0 < length rest
  pub no_mark : (after : Text) → rest ≡ mark ++ after → ⊥
  pub no_row : (r : Row) (after : Text) → IsRow r → rest ≡ row_text r ++ after → ⊥

pub breaks : (text rest : Text) (rows : List Row) (at : ℕ) →
    IsReading text rest rows →
    IsStopped rest →
    at + length rest ≡ length text →
    BreaksAt text at
breaks text rest rows at i s place =
    record {
      read = i.read;
      rest = rest;
      rows = rows;
      lists = i.lists;
      parts = i.parts;
      place = omega (arith, ap length i.parts, length-append i.read rest);
      goes_on = s.some;
      no_mark = s.no_mark;
      no_row = s.no_row;
    }

pub not_listed : (text rest : Text) (rows all : List Row) →
    IsReading text rest rows →
    IsStopped rest →
    Lists text all →
    ⊥
not_listed text rest rows all i s l = let q = i.left all l in lists_nothing rest q.0 s.some s.no_mark s.no_row q.1

-- ---- the first line of the rest

pub row_cut : (rest after : Text) (r : Row) →
    IsRow r →
    rest ≡ row_text r ++ after →
    cut 10 rest ≡ two (head_line r.seed r.count) (r.history ++ 10 ∷ after)
row_cut rest after r is e =
    ap (cut 10) (e ∙ row_split r after) ∙ cut_at 10 (head_line r.seed r.count) (r.history ++ 10 ∷ after)
    (without 10 (head_line r.seed r.count) (lacks-head r.seed r.count is.seed is.count))

-- the line of a row, and what stands after it
pub record IsHead (l behind : Text) (r : Row) (after : Text) : Type 0 where
  pub head : l ≡ head_line r.seed r.count
  pub behind_is : behind ≡ r.history ++ 10 ∷ after

pub head_of : (rest l behind after : Text) (r : Row) →
    two l behind ≡ cut 10 rest →
    IsRow r →
    rest ≡ row_text r ++ after →
    IsHead l behind r after
head_of rest l behind after r c is e =
    let both = c ∙ row_cut rest after r is e in
    record {
      head = first_of_two l behind (head_line r.seed r.count) (r.history ++ 10 ∷ after) both;
      behind_is = second_of_two l behind (head_line r.seed r.count) (r.history ++ 10 ∷ after) both;
    }

pub of_head : (rest l behind after : Text) (r : Row) →
    two l behind ≡ cut 10 rest →
    IsHead l behind r after →
    rest ≡ row_text r ++ after
of_head rest l behind after r c h =
    cut_parts 10 rest l behind c ∙ ap (λ t. t ++ 10 ∷ behind) h.head ∙
    ap (λ t. head_line r.seed r.count ++ 10 ∷ t) h.behind_is ∙ sym (row_split r after)

pub is_mark : (rest l behind : Text) → two l behind ≡ cut 10 rest → l ≡ 37 ∷ 37 ∷ [] → rest ≡ mark ++ behind
is_mark rest l behind c e = cut_parts 10 rest l behind c ∙ ap (λ t. t ++ 10 ∷ behind) e

-- as a line is compared with `%%`
pub is_marks : (l : Text) → true ≡ bytes_eq l (37 ∷ 37 ∷ []) → l ≡ 37 ∷ 37 ∷ []
is_marks l e = (bytes_eq-Decides l (37 ∷ 37 ∷ [])).0 (sym e)

pub no_marks : (l : Text) → false ≡ bytes_eq l (37 ∷ 37 ∷ []) → l ≡ 37 ∷ 37 ∷ [] → ⊥
no_marks l e same = true≢false (sym ((bytes_eq-Decides l (37 ∷ 37 ∷ [])).1 same) ∙ sym e)

pub mark_is : (rest l behind after : Text) → two l behind ≡ cut 10 rest → rest ≡ mark ++ after → l ≡ 37 ∷ 37 ∷ []
mark_is rest l behind after c e = first_of_two l behind (37 ∷ 37 ∷ []) after (c ∙ ap (cut 10) e)

-- a rest without a line feed
pub stopped_end : (rest : Text) → None ≡ cut 10 rest → 0 < length rest → IsStopped rest
stopped_end rest c some = record {
  some = some;
  no_mark = λ after e. none_is (c ∙ ap (cut 10) e);
  no_row = λ r after is e. none_is (c ∙ row_cut rest after r is e);
}

-- a rest whose first line is neither
pub stopped_line : (rest l behind : Text) → two l behind ≡ cut 10 rest → (l ≡ 37 ∷ 37 ∷ [] → ⊥)
    → ((r : Row) (after : Text) → IsRow r → IsHead l behind r after → ⊥) → IsStopped rest
stopped_line rest l behind c apart none = record {
  some = let parts = ap length (cut_parts 10 rest l behind c) in let sum = length-append l (10 ∷ behind) in omega arith;
  no_mark = λ after e. apart (mark_is rest l behind after c e);
  no_row = λ r after is e. none r after is (head_of rest l behind after r c is e);
}
