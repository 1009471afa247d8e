-- The lines of a report.
use Rattle.std.proofs.Common.{◌≡◌, ◌∙◌, ◌<◌, ◌==◌, ◌^◌, ℕ, zero, suc, Bool, true, false, cond, not, [], ◌∷◌, ◌++◌}
use Rattle.std.proofs.Common.{Option, Some, None, codes, refl, sym, ap, arith, append_assoc}
use Rattle.std.specs.Prelude.{IfSome, option_map}
use Rattle.std.specs.Fmt.{decimal}
use Rattle.std.proofs.lemmas.Bool.{and_from, and_parts}
use Rattle.ls_report.specs.Cut.{cut}
use Rattle.ls_report.specs.Events.{Text}
use Rattle.ls_report.proofs.CutLemmas.{first_of_two, lacks-append, lacks-decimal, none_is, Two, two}
use Rattle.ls_find_reports.specs.Reports.{AreFigures, Found, head_of, IsProgram, lacks, tail_of, text_with}
use Rattle.ls_find_reports.proofs.WordLemmas.{cut_fits, doubles_fit, from_fits, to_fits}
use Rattle.ls_find_reports.specs.Printing.{figures_line, first_text, none_line, number_text}
use Rattle.ls_find_reports.specs.declared.figures.Figures.{Figures}

-- what is cut off has no such byte
pub cut_lacks : (b : ℕ) (bs x y : Text) → cut b bs ≡ two x y → lacks b x ≡ true
cut_lacks b [] x y e = absurd (none_is e)
cut_lacks b (c ∷ cs) x y e = go (c == b) refl (cut b cs) (λ p q. cut_lacks b cs p q) e
  where
    go : (t : Bool) → (c == b) ≡ t → (o : Option Two) → ((p q : Text) → o ≡ two p q → lacks b p ≡ true)
        → cond t (two [] cs) (option_map (λ p. (c ∷ p.0, p.1)) o) ≡ two x y → lacks b x ≡ true
    go true s o next k = ap (lacks b) (sym (first_of_two [] cs x y k))
    go false s None next k = absurd (none_is k)
    go false s (Some p) next k =
        ap (lacks b) (sym (first_of_two (c ∷ p.0) p.1 x y k)) ∙
        and_from (not (c == b)) (lacks b p.0) (ap not s) (next p.0 p.1 refl)

-- the end of a text without such a byte has none
pub lacks_end : (b : ℕ) (xs ys : Text) → lacks b (xs ++ ys) ≡ true → lacks b ys ≡ true
lacks_end b [] ys h = h
lacks_end b (x ∷ xs) ys h = lacks_end b xs ys (and_parts (not (x == b)) (lacks b (xs ++ ys)) h).1

-- ---- the parts of a report

found_split : (f : Figures) (p : Found) (after : Text) →
    text_with f (Some p) ++ after ≡ head_of f (Some p) ++ 10 ∷ (figures_line f ++ 10 ∷ tail_of (Some p) after)
found_split f p after =
    let n = number_text p.number f.count in
    let line = figures_line f in
    let a = p.program in
    let b = codes "%%\n" in
    let s = p.schedule in
    let inner : (a ++ (b ++ s)) ++ after ≡ a ++ (b ++ (s ++ after)) =
    append_assoc a (b ++ s) after ∙ ap (λ t. a ++ t) (append_assoc b s after) in
    append_assoc n (p.reason ++ (10 ∷ (line ++ (10 ∷ (a ++ (b ++ s)))))) after ∙
    ap (λ t. n ++ t) (append_assoc p.reason (10 ∷ (line ++ (10 ∷ (a ++ (b ++ s))))) after) ∙
    ap (λ t. n ++ (p.reason ++ 10 ∷ t)) (append_assoc line (10 ∷ (a ++ (b ++ s))) after) ∙
    ap (λ t. n ++ (p.reason ++ 10 ∷ (line ++ 10 ∷ t))) inner ∙
    sym (append_assoc n p.reason (10 ∷ (line ++ 10 ∷ (a ++ (b ++ (s ++ after))))))

pub none_split : (f : Figures) (after : Text) →
    text_with f None ++ after ≡ head_of f None ++ 10 ∷ (figures_line f ++ 10 ∷ after)
none_split f after =
    let head = none_line f.cut in
    let line = figures_line f in
    append_assoc head (10 ∷ (line ++ 10 ∷ [])) after ∙ ap (λ t. head ++ 10 ∷ t) (append_assoc line (10 ∷ []) after)

pub split : (f : Figures) (found : Option Found) (after : Text) →
    text_with f found ++ after ≡ head_of f found ++ 10 ∷ (figures_line f ++ 10 ∷ tail_of found after)
split f None after = none_split f after
split f (Some p) after = found_split f p after

-- ---- neither of the two lines has a line feed

digits : (n : ℕ) → n < 2 ^ 64 → lacks 10 (decimal n) ≡ true
digits n fits = lacks-decimal 10 n (λ m small same. omega arith) fits

first_lacks : (cut first : ℕ) → first < 2 ^ 64 → lacks 10 (first_text cut first) ≡ true
first_lacks zero first fits = refl
first_lacks (suc cut) first fits =
    lacks-append 10 (codes " from number ") (decimal first ++ codes " on") refl
    (lacks-append 10 (decimal first) (codes " on") (digits first fits) refl)

-- a word and a number in front of a text
word_lacks : (word : Text) (n : ℕ) (rest : Text) →
    lacks 10 word ≡ true →
    n < 2 ^ 64 →
    lacks 10 rest ≡ true →
    lacks 10 (word ++ (decimal n ++ rest)) ≡ true
word_lacks word n rest w fits r = lacks-append 10 word (decimal n ++ rest) w (lacks-append 10 (decimal n) rest
    (digits n fits) r)

pub figures_lack : (f : Figures) → AreFigures f → lacks 10 (figures_line f) ≡ true
figures_lack f is =
    word_lacks (codes "// numbers ") f.from _ refl (from_fits f is)
    (word_lacks (codes " to ") f.to _ refl (to_fits f is)
    (word_lacks (codes " of ") f.count _ refl is.count
    (word_lacks (codes " with ") f.doubles _ refl (doubles_fit f is)
    (word_lacks (codes " doubles and ") f.cut _ refl (cut_fits f is)
    (lacks-append 10 (codes " cut") (first_text f.cut f.first) refl (first_lacks f.cut f.first is.first))))))

none_lacks : (cut : ℕ) → lacks 10 (none_line cut) ≡ true
none_lacks zero = refl
none_lacks (suc cut) = refl

pub head_lacks : (f : Figures) (found : Option Found) →
    AreFigures f →
    IfSome found IsProgram →
    lacks 10 (head_of f found) ≡ true
head_lacks f None is known = none_lacks f.cut
head_lacks f (Some p) is program =
    lacks-append 10 (number_text p.number f.count) p.reason
    (word_lacks (codes "// number ") p.number _ refl program.number
    (word_lacks (codes " of ") f.count (codes ": ") refl is.count refl)) program.reason
