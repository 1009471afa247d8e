-- Lines that are left out.
use Rattle.std.proofs.Common.{◌≡◌, ℕ, suc, ◌+◌, ◌≤◌, Bool, true, false, List, [], ◌∷◌, ◌++◌, length, refl, sym}
use Rattle.std.proofs.Common.{ap, ◌∙◌, arith, subst, take}
use Rattle.std.specs.Prelude.{bytes_eq, flat_map, nat_eq, nat_le, if◌then◌else◌}
use Rattle.std.proofs.lemmas.Slice.Eq.{bytes_eq-Decides}
use Rattle.ls_report.specs.Events.{Text}
use Rattle.ls_labels.specs.Names.{Names}
use Rattle.ls_trace.specs.Told.{Told, after_step, begun}
use Rattle.ls_trace.specs.Lines.{lines}
use Rattle.ls_page.specs.Changes.{Line, changed, line_of, line_text, lines_of, trace_lines}
use Rattle.ls_page.specs.Filling.{ChangesFill, LinesAreTheTrace, filled}

-- numbers one after another, from a number on
data AreNumbered : ℕ → List Line → Type 0 where
  NoLine : (number : ℕ) → AreNumbered number []
  OneMore : (number : ℕ) (l : Line) (ls : List Line) → l.number ≡ number → AreNumbered (number + 1) ls →
      AreNumbered number (l ∷ ls)

-- none has a number below this
data AreFrom : ℕ → List Line → Type 0 where
  Nothing : (number : ℕ) → AreFrom number []
  First : (number : ℕ) (l : Line) (ls : List Line) → number ≤ l.number → AreFrom number (l ∷ ls)

from_more : (n m : ℕ) (ls : List Line) → n ≤ m → AreFrom m ls → AreFrom n ls
from_more n m [] le (Nothing _) = Nothing n
from_more n m (l ∷ ls) le (First _ _ _ h) = First n l ls (omega (arith, le, h))

changed_from : (n : ℕ) (words : Text) (ls : List Line) → AreNumbered n ls → AreFrom n (changed words ls)
changed_from n words [] (NoLine _) = Nothing n
changed_from n words (l ∷ ls) (OneMore _ _ _ is h) = by_same (bytes_eq words l.words)
    (changed_from (n + 1) l.words ls h)
  where
    by_same : (b : Bool) → AreFrom (n + 1) (changed l.words ls) →
        AreFrom n ((if b then [] else l ∷ []) ++ changed l.words ls)
    by_same true later = from_more n (n + 1) (changed l.words ls) (omega arith) later
    by_same false later = First n l (changed l.words ls) (omega (arith, is))

-- where no line has this number, it says what the line before says
left_out : (left n : ℕ) (words : Text) (ls : List Line) → AreFrom (n + 1) ls →
    filled (suc left) n words ls ≡ record { number = n; words = words } ∷ filled left (n + 1) words ls
left_out left n words [] (Nothing _) = refl
left_out left n words (l ∷ ls) (First _ _ _ h) = by_number (nat_eq l.number n) refl
  where
    by_number : (b : Bool) → nat_eq l.number n ≡ b →
        (if b then l ∷ filled left (n + 1) l.words ls else record { number = n; words = words } ∷
        filled left (n + 1) words (l ∷ ls)) ≡ record { number = n; words = words } ∷ filled left (n + 1) words (l ∷ ls)
    by_number true e = absurd (grind (arith, e, h))
    by_number false e = refl

line_is : (l : Line) (n : ℕ) (words : Text) → l.number ≡ n → words ≡ l.words →
    record { number = n; words = words } ≡ l
line_is l n words is same =
    ap (λ m. record { number = m; words = words }) (sym is) ∙ ap (λ w. record { number = l.number; words = w }) same

fills : (n : ℕ) (words : Text) (ls : List Line) → AreNumbered n ls →
    filled (length ls) n words (changed words ls) ≡ ls
fills n words [] (NoLine _) = refl
fills n words (l ∷ ls) (OneMore _ _ _ is h) =
    by_same (bytes_eq words l.words) refl (fills (n + 1) l.words ls h)
  where
    rest : List Line
    rest = changed l.words ls

    by_number : (b : Bool) → nat_eq l.number n ≡ b → filled (length ls) (n + 1) l.words rest ≡ ls →
        (if b then l ∷ filled (length ls) (n + 1) l.words rest else
        record { number = n; words = words } ∷ filled (length ls) (n + 1) words (l ∷ rest)) ≡ l ∷ ls
    by_number true f later = ap (λ r. l ∷ r) later
    by_number false f later = absurd (grind (arith, f, is))

    by_same : (b : Bool) → bytes_eq words l.words ≡ b → filled (length ls) (n + 1) l.words rest ≡ ls →
        filled (suc (length ls)) n words ((if b then [] else l ∷ []) ++ rest) ≡ l ∷ ls
    by_same true e later =
        let same = (bytes_eq-Decides words l.words).0 e in
        left_out (length ls) n words rest (changed_from (n + 1) l.words ls h)
        ∙ ap (λ w. record { number = n; words = words } ∷ filled (length ls) (n + 1) w rest) same
        ∙ ap (λ m. m ∷ filled (length ls) (n + 1) l.words rest) (line_is l n words is same)
        ∙ ap (λ r. l ∷ r) later
    by_same false e later = by_number (nat_eq l.number n) refl later

-- ---- the lines of `trace`

numbered_on : (names : Names) (from number : ℕ) (r : Told) (ts : List ℕ) → from ≤ number →
    AreNumbered number (lines_of names from number r ts)
numbered_on names from number r [] le = NoLine number
numbered_on names from number r (t ∷ ts) le =
    by_told (nat_le from number) refl
    (numbered_on names from (number + 1) (after_step names r t) ts (omega (arith, le)))
  where
    l : Line
    l = line_of names number r t

    left : List Line
    left = lines_of names from (number + 1) (after_step names r t) ts

    by_told : (b : Bool) → nat_le from number ≡ b → AreNumbered (number + 1) left →
        AreNumbered number ((if b then l ∷ [] else []) ++ left)
    by_told true e later = OneMore number l left refl later
    by_told false e later = absurd (grind (arith, e, le))

numbered_from : (names : Names) (from number : ℕ) (r : Told) (ts : List ℕ) → number ≤ from →
    AreNumbered from (lines_of names from number r ts)
numbered_from names from number r [] le = NoLine from
numbered_from names from number r (t ∷ ts) le =
    by_told (nat_le from number) refl (λ under. numbered_from names from (number + 1) (after_step names r t) ts under)
  where
    l : Line
    l = line_of names number r t

    left : List Line
    left = lines_of names from (number + 1) (after_step names r t) ts

    by_told : (b : Bool) → nat_le from number ≡ b → (number + 1 ≤ from → AreNumbered from left) →
        AreNumbered from ((if b then l ∷ [] else []) ++ left)
    by_told true e later =
        let same : number ≡ from = grind (arith, e, le) in
        subst (λ n. AreNumbered n (l ∷ left)) same
        (OneMore number l left refl
        (numbered_on names from (number + 1) (after_step names r t) ts (omega (arith, same))))
    by_told false e later = later (grind (arith, e, le))

pub changes_fill : ChangesFill
changes_fill names steps from to some =
    fills from [] (trace_lines names steps from to)
    (numbered_from names from 1 (begun names.program) (take to steps) (omega (arith, some)))

lines_are : (names : Names) (from number : ℕ) (r : Told) (ts : List ℕ) →
    lines names from number r ts ≡ flat_map line_text (lines_of names from number r ts)
lines_are names from number r [] = refl
lines_are names from number r (t ∷ ts) =
    by_told (nat_le from number) (lines_are names from (number + 1) (after_step names r t) ts)
  where
    l : Line
    l = line_of names number r t

    left : List Line
    left = lines_of names from (number + 1) (after_step names r t) ts

    by_told : (b : Bool) → lines names from (number + 1) (after_step names r t) ts ≡ flat_map line_text left →
        (if b then line_text l else []) ++ lines names from (number + 1) (after_step names r t) ts
        ≡ flat_map line_text ((if b then l ∷ [] else []) ++ left)
    by_told true later = ap (λ x. line_text l ++ x) later
    by_told false later = later

pub lines_are_the_trace : LinesAreTheTrace
lines_are_the_trace names steps from to = lines_are names from 1 (begun names.program) (take to steps)
