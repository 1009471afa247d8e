-- The words of the line of what is counted.
use Rattle.std.proofs.Common.{◌≡◌, ◌∙◌, ◌+◌, ◌-◌, ◌<◌, ◌≤◌, ◌^◌, ℕ, zero, suc, Option, Some, ◌∷◌, ◌++◌, codes, ap}
use Rattle.std.proofs.Common.{append_assoc, arith, sym}
use Rattle.std.specs.Fmt.{decimal}
use Rattle.ls_report.specs.Cut.{cut}
use Rattle.ls_report.specs.Events.{Text}
use Rattle.ls_report.proofs.CutLemmas.{cut_at, lacks-decimal, without}
use Rattle.ls_find_reports.specs.Reports.{AreFigures}
use Rattle.ls_find_reports.specs.Words.{after_cut, before_cut, rest_at, word_at}
use Rattle.ls_find_reports.specs.Printing.{figures_line, first_text, number_text}
use Rattle.ls_find_reports.specs.declared.figures.Figures.{Figures}

-- a number and a space are cut at the space
number_cut : (n : ℕ) (rest : Text) → n < 2 ^ 64 → cut 32 (decimal n ++ 32 ∷ rest) ≡ Some (decimal n, rest)
number_cut n rest fits = cut_at 32 (decimal n) rest (without 32 (decimal n)
    (lacks-decimal 32 n (λ m small same. omega arith) fits))

-- the first word is the number
pub first_word : (n : ℕ) (rest : Text) → n < 2 ^ 64 → word_at 0 (decimal n ++ 32 ∷ rest) ≡ decimal n
first_word n rest fits = ap (before_cut (decimal n ++ 32 ∷ rest)) (number_cut n rest fits)

-- and each other is one of the rest
pub next_word : (k n : ℕ) (rest : Text) → n < 2 ^ 64 → word_at (suc k) (decimal n ++ 32 ∷ rest) ≡ word_at k rest
next_word k n rest fits = ap (λ (o : Option (Text × Text)). word_at k (after_cut o)) (number_cut n rest fits)

-- ---- the rests of the line

abbrev cut_rest : Figures → Text
cut_rest f = codes "cut" ++ first_text f.cut f.first

abbrev doubles_rest : Figures → Text
doubles_rest f = codes "doubles and " ++ (decimal f.cut ++ 32 ∷ cut_rest f)

abbrev count_rest : Figures → Text
count_rest f = codes "with " ++ (decimal f.doubles ++ 32 ∷ doubles_rest f)

abbrev to_rest : Figures → Text
to_rest f = codes "of " ++ (decimal f.count ++ 32 ∷ count_rest f)

abbrev from_rest : Figures → Text
from_rest f = codes "to " ++ (decimal f.to ++ 32 ∷ to_rest f)

-- ---- the numbers have 64 bits

pub from_fits : (f : Figures) → AreFigures f → f.from < 2 ^ 64
from_fits f is = omega (arith, is.order, is.last, is.count)

pub to_fits : (f : Figures) → AreFigures f → f.to < 2 ^ 64
to_fits f is = omega (arith, is.last, is.count)

pub doubles_fit : (f : Figures) → AreFigures f → f.doubles < 2 ^ 64
doubles_fit f is = omega (arith, is.passed, is.last, is.count, is.some)

pub cut_fits : (f : Figures) → AreFigures f → f.cut < 2 ^ 64
cut_fits f is = omega (arith, is.passed, is.last, is.count, is.some)

-- ---- the words

pub from_word : (f : Figures) → AreFigures f → word_at 2 (figures_line f) ≡ decimal f.from
from_word f is = first_word f.from (from_rest f) (from_fits f is)

after_from : (k : ℕ) (f : Figures) → AreFigures f → word_at (suc (suc (suc (suc k)))) (figures_line f) ≡
    word_at k (decimal f.to ++ 32 ∷ to_rest f)
after_from k f is = next_word (suc k) f.from (from_rest f) (from_fits f is)

after_to : (k : ℕ) (f : Figures) → AreFigures f → word_at (suc (suc (suc (suc (suc (suc k)))))) (figures_line f) ≡
    word_at k (decimal f.count ++ 32 ∷ count_rest f)
after_to k f is = after_from (suc (suc k)) f is ∙ next_word (suc k) f.to (to_rest f) (to_fits f is)

after_count : (k : ℕ) (f : Figures) →
    AreFigures f →
    word_at (suc (suc (suc (suc (suc (suc (suc (suc k)))))))) (figures_line f) ≡
    word_at k (decimal f.doubles ++ 32 ∷ doubles_rest f)
after_count k f is = after_to (suc (suc k)) f is ∙ next_word (suc k) f.count (count_rest f) is.count

after_doubles : (k : ℕ) (f : Figures) →
    AreFigures f →
    word_at (suc (suc (suc (suc (suc (suc (suc (suc (suc (suc (suc k))))))))))) (figures_line f) ≡
    word_at k (decimal f.cut ++ 32 ∷ cut_rest f)
after_doubles k f is = after_count (suc (suc (suc k))) f is ∙ next_word (suc (suc k)) f.doubles (doubles_rest f)
    (doubles_fit f is)

pub to_word : (f : Figures) → AreFigures f → word_at 4 (figures_line f) ≡ decimal f.to
to_word f is = after_from 0 f is ∙ first_word f.to (to_rest f) (to_fits f is)

pub count_word : (f : Figures) → AreFigures f → word_at 6 (figures_line f) ≡ decimal f.count
count_word f is = after_to 0 f is ∙ first_word f.count (count_rest f) is.count

pub doubles_word : (f : Figures) → AreFigures f → word_at 8 (figures_line f) ≡ decimal f.doubles
doubles_word f is = after_count 0 f is ∙ first_word f.doubles (doubles_rest f) (doubles_fit f is)

pub cut_word : (f : Figures) → AreFigures f → word_at 11 (figures_line f) ≡ decimal f.cut
cut_word f is = after_doubles 0 f is ∙ first_word f.cut (cut_rest f) (cut_fits f is)

in_cut : (cut first : ℕ) → first < 2 ^ 64 → 0 < cut → word_at 3 (codes "cut" ++ first_text cut first) ≡ decimal first
in_cut zero first fits some = absurd (omega (arith, some))
in_cut (suc cut) first fits some = first_word first (codes "on") fits

pub cut_first_word : (f : Figures) → AreFigures f → 0 < f.cut → word_at 15 (figures_line f) ≡ decimal f.first
cut_first_word f is some =
    after_doubles 4 f is ∙ next_word 3 f.cut (cut_rest f) (cut_fits f is) ∙ in_cut f.cut f.first is.first some

number_split : (n count : ℕ) (reason : Text) → number_text n count ++ reason ≡
    codes "// number " ++ (decimal n ++ (codes " of " ++ (decimal count ++ (codes ": " ++ reason))))
number_split n count reason =
    let a = codes "// number " in
    let b = codes " of " in
    let c = decimal count in
    let e = codes ": " in
    append_assoc a (decimal n ++ (b ++ (c ++ e))) reason ∙ ap (λ t. a ++ t)
    (append_assoc (decimal n) (b ++ (c ++ e)) reason ∙ ap (λ t. decimal n ++ t)
    (append_assoc b (c ++ e) reason ∙ ap (λ t. b ++ t) (append_assoc c e reason)))

-- the number of a program
pub number_word : (n count : ℕ) (reason : Text) → n < 2 ^ 64 → word_at 2 (number_text n count ++ reason) ≡ decimal n
number_word n count reason fits =
    ap (word_at 2) (number_split n count reason) ∙
    first_word n (codes "of " ++ (decimal count ++ (codes ": " ++ reason))) fits

-- ---- going on to a word

pub starts : (place : ℕ) (line : Text) → rest_at place line ≡ rest_at (place - 0) line
starts place line = let e : place ≡ place - 0 = omega arith in ap (λ n. rest_at n line) e

pub one_more : (place k : ℕ) (line rest next : Text) → k < place → next ≡ after_cut (cut 32 rest) →
    rest_at place line ≡ rest_at (place - k) rest → rest_at place line ≡ rest_at (place - (k + 1)) next
one_more place k line rest next less is so =
    let steps : place - k ≡ suc (place - (k + 1)) = omega (arith, less) in
    so ∙ ap (λ n. rest_at n rest) steps ∙ ap (rest_at (place - (k + 1))) (sym is)

pub word_is : (place k : ℕ) (line rest word : Text) → place ≤ k → word ≡ before_cut rest (cut 32 rest) →
    rest_at place line ≡ rest_at (place - k) rest → word ≡ word_at place line
word_is place k line rest word past is so =
    let none : place - k ≡ 0 = omega (arith, past) in
    is ∙ ap (λ t. before_cut t (cut 32 t)) (sym (so ∙ ap (λ n. rest_at n rest) none))
