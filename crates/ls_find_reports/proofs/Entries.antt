-- The report with which a text begins.
use Rattle.std.proofs.Common.{◌≡◌, ◌∙◌, ℕ, zero, suc, Option, Some, None, [], ◌∷◌, ◌++◌, get_or, arith, codes, refl}
use Rattle.std.proofs.Common.{sym, ap}
use Rattle.std.proofs.Common.{subst, append_assoc}
use Rattle.std.specs.Prelude.{IfSome}
use Rattle.ls_report.specs.Cut.{cut}
use Rattle.ls_report.specs.Events.{Text}
use Rattle.ls_report.proofs.CutLemmas.{cut_at, cut_parts, first_of_two, none_is, second_of_two, some_is, two, without}
use Rattle.ls_find_reports.specs.Reports.{AreFigures, ComesAfter, Found, head_of, IsProgram, IsReport, IsWith, Report}
use Rattle.ls_find_reports.specs.Reports.{report_text, tail_of, text_with}
use Rattle.ls_find_reports.proofs.Lines.{figures_lack, head_lacks, split}
use Rattle.ls_find_reports.specs.Printing.{figures_line, none_line, number_text}
use Rattle.ls_find_reports.specs.declared.figures.Figures.{Figures}

-- ---- what is so of an option

pub some_weaker : {X : Type 0} (o : Option X) (P Q : X → Type 0) → ((x : X) → P x → Q x) → IfSome o P → IfSome o Q
some_weaker None P Q so h = tt
some_weaker (Some x) P Q so h = so x h

-- ---- the two lines, and what stands behind them

lines_of : (text first behind second after : Text) → two first behind ≡ cut 10 text → two second after ≡ cut 10 behind →
    text ≡ first ++ 10 ∷ (second ++ 10 ∷ after)
lines_of text first behind second after a b =
    cut_parts 10 text first behind a ∙ ap (λ t. first ++ 10 ∷ t) (cut_parts 10 behind second after b)

-- a report that has such lines is the beginning of the text
pub report_is : (text first behind second tail : Text) (f : Figures) (r : Report) (after : Text) →
    two first behind ≡ cut 10 text → two second tail ≡ cut 10 behind → AreFigures f → second ≡ figures_line f →
    IsWith f first tail r after → IsReport r × (text ≡ report_text r ++ after)
report_is text first behind second tail f r after a b are line w = (
  record {
    figures = subst AreFigures (sym w.figures) are;
    found = w.found;
    number = some_weaker r.found (λ p. ComesAfter f p.number) (λ p. ComesAfter r.figures p.number)
        (λ p h. subst (λ (g : Figures). ComesAfter g p.number) (sym w.figures) h) w.number;
  },
  lines_of text first behind second tail a b ∙
      ap (λ t. t ++ 10 ∷ (second ++ 10 ∷ tail)) w.line ∙
      ap (λ t. head_of f r.found ++ 10 ∷ (t ++ 10 ∷ tail)) line ∙
      ap (λ t. head_of f r.found ++ 10 ∷ (figures_line f ++ 10 ∷ t)) w.behind ∙
      sym (split f r.found after) ∙ ap (λ (g : Figures). text_with g r.found ++ after) (sym w.figures),
)

-- a text that begins with a report is cut after its lines
pub first_cut : (text : Text) (r : Report) (after : Text) → IsReport r → text ≡ report_text r ++ after →
    cut 10 text ≡ two (head_of r.figures r.found) (figures_line r.figures ++ 10 ∷ tail_of r.found after)
first_cut text r after is e =
    ap (cut 10) (e ∙ split r.figures r.found after) ∙
    cut_at 10 (head_of r.figures r.found) (figures_line r.figures ++ 10 ∷ tail_of r.found after)
    (without 10 (head_of r.figures r.found) (head_lacks r.figures r.found is.figures is.found))

pub second_cut : (f : Figures) (tail : Text) → AreFigures f → cut 10 (figures_line f ++ 10 ∷ tail) ≡
    two (figures_line f) tail
second_cut f tail is = cut_at 10 (figures_line f) tail (without 10 (figures_line f) (figures_lack f is))

-- what is cut off is what the report has
pub record HasLines (head line rest : Text) (r : Report) (after : Text) : Type 0 where
  pub first : head ≡ head_of r.figures r.found
  pub second : line ≡ figures_line r.figures
  pub tail : rest ≡ tail_of r.found after

pub has_lines : (text first behind second tail : Text) (r : Report) (after : Text) →
    two first behind ≡ cut 10 text → two second tail ≡ cut 10 behind → IsReport r → text ≡ report_text r ++ after →
    HasLines first second tail r after
has_lines text first behind second tail r after a b is e =
    let head = head_of r.figures r.found in
    let line = figures_line r.figures in
    let rest = tail_of r.found after in
    let both = a ∙ first_cut text r after is e in
    let next = second_of_two first behind head (line ++ 10 ∷ rest) both in
    let more = b ∙ ap (cut 10) next ∙ second_cut r.figures rest is.figures in
    record {
      first = first_of_two first behind head (line ++ 10 ∷ rest) both;
      second = first_of_two second tail line rest more;
      tail = second_of_two second tail line rest more;
    }

pub no_first : (text : Text) (r : Report) (after : Text) → None ≡ cut 10 text → IsReport r →
    text ≡ report_text r ++ after → ⊥
no_first text r after none is e = none_is (none ∙ first_cut text r after is e)

pub no_second : (text first behind : Text) (r : Report) (after : Text) → two first behind ≡ cut 10 text →
    None ≡ cut 10 behind → IsReport r → text ≡ report_text r ++ after → ⊥
no_second text first behind r after a none is e =
    let head = head_of r.figures r.found in
    let rest = figures_line r.figures ++ 10 ∷ tail_of r.found after in
    let next = second_of_two first behind head rest (a ∙ first_cut text r after is e) in
    none_is (none ∙ ap (cut 10) next ∙ second_cut r.figures (tail_of r.found after) is.figures)

pub with_lines : (f : Figures) (first second tail : Text) (r : Report) (after : Text) → r.figures ≡ f → IsReport r →
    HasLines first second tail r after → IsWith f first tail r after
with_lines f first second tail r after same is has = record {
  figures = same;
  found = is.found;
  number = some_weaker r.found (λ p. ComesAfter r.figures p.number) (λ p. ComesAfter f p.number)
      (λ p h. subst (λ (g : Figures). ComesAfter g p.number) same h) is.number;
  line = has.first ∙ ap (λ (g : Figures). head_of g r.found) same;
  behind = has.tail;
}

-- ---- a line that tells of none tells of no program

two_signs : (b : ℕ) → b ≡ 117 → b ≡ 111 → ⊥
two_signs b e f = omega arith

fourth_of_none : (cut : ℕ) → get_or (none_line cut) 4 0 ≡ 111
fourth_of_none zero = refl
fourth_of_none (suc cut) = refl

pub no_number : (n count cut : ℕ) (reason : Text) → number_text n count ++ reason ≡ none_line cut → ⊥
no_number n count cut reason e =
    two_signs (get_or (number_text n count ++ reason) 4 0) refl (ap (λ (t : Text). get_or t 4 0) e ∙ fourth_of_none cut)

abbrev pub entry : Report → Text → Option (Report × Text)
entry r after = Some (r, after)

abbrev pub none_report : Figures → Report
none_report f = record { figures = f; found = None }

-- where the line is that of none, it is the report of none
pub none_entry : (f : Figures) (line behind : Text) (r : Report) (after : Text) → line ≡ none_line f.cut →
    IsWith f line behind r after → entry (none_report f) behind ≡ entry r after
none_entry f line behind r after e w = by_found r.found refl
  where
    by_found : (o : Option Found) → o ≡ r.found → entry (none_report f) behind ≡ entry r after
    by_found None same =
        let back : behind ≡ after = w.behind ∙ ap (λ o. tail_of o after) (sym same) in
        let figures = sym w.figures in
        λ i. Some (record { figures = figures i; found = same i }, back i)
    by_found (Some p) same =
        absurd (no_number p.number f.count f.cut p.reason
        (ap (head_of f) same ∙ sym w.line ∙ e))

pub program_entry : (f : Figures) (line behind : Text) (r : Report) (after : Text) → (line ≡ none_line f.cut → ⊥) →
    IsWith f line behind r after →
    (p : Found) × (r.found ≡ Some p) × IsProgram p × ComesAfter f p.number ×
    (line ≡ number_text p.number f.count ++ p.reason) × (behind ≡ tail_of (Some p) after)
program_entry f line behind r after other w = by_found r.found refl w.found w.number
  where
    by_found : (o : Option Found) → o ≡ r.found → IfSome o IsProgram → IfSome o (λ p. ComesAfter f p.number) →
        (p : Found) × (r.found ≡ Some p) × IsProgram p × ComesAfter f p.number ×
        (line ≡ number_text p.number f.count ++ p.reason) × (behind ≡ tail_of (Some p) after)
    by_found None same is comes = absurd (other (w.line ∙ ap (head_of f) (sym same)))
    by_found (Some p) same is comes =
        (p, sym same, is, comes, w.line ∙ ap (head_of f) (sym same), w.behind ∙ ap (λ o. tail_of o after) (sym same))

-- ---- a program

-- its text with the line of its schedule
pub tail_lines : (behind : Text) (f : Found) (after : Text) (is : IsProgram f) → behind ≡ tail_of (Some f) after →
    behind ≡ f.program ++ (codes "%%\n" ++ (is.schedule.0 ++ 10 ∷ after))
tail_lines behind f after is e =
    e ∙ ap (λ t. f.program ++ (codes "%%\n" ++ (t ++ after))) is.schedule.1 ∙
    ap (λ t. f.program ++ (codes "%%\n" ++ t)) (append_assoc is.schedule.0 (10 ∷ []) after)

abbrev pub number_of : ℕ → Text → Option (ℕ × Text)
number_of n reason = Some (n, reason)

abbrev pub body_of : Text → Text → Text → Option (Text × Text × Text)
body_of program schedule after = Some (program, schedule, after)

abbrev pub program_of : Found → Text → Option (Found × Text)
program_of f after = Some (f, after)

pub program_is : (f : Found) (after : Text) (is : IsProgram f) (n : ℕ) (reason program schedule rest : Text) →
    number_of n reason ≡ number_of f.number f.reason →
    body_of program schedule rest ≡ body_of f.program is.schedule.0 after →
    program_of (record { number = n; reason = reason; program = program; schedule = schedule ++ 10 ∷ [] }) rest ≡
    program_of f after
program_is f after is n reason program schedule rest head body =
    let a : n ≡ f.number = ap (λ (p : ℕ × Text). p.0) (some_is head) in
    let b : reason ≡ f.reason = ap (λ (p : ℕ × Text). p.1) (some_is head) in
    let c : program ≡ f.program = ap (λ (p : Text × Text × Text). p.0) (some_is body) in
    let d : schedule ≡ is.schedule.0 = ap (λ (p : Text × Text × Text). p.1) (some_is body) in
    let e : rest ≡ after = ap (λ (p : Text × Text × Text). p.2) (some_is body) in
    let s : schedule ++ 10 ∷ [] ≡ f.schedule = ap (λ t. t ++ 10 ∷ []) d ∙ sym is.schedule.1 in
    λ i. Some (record { number = a i; reason = b i; program = c i; schedule = s i }, e i)

-- the report of a program
pub report_of_program : (f : Figures) (r : Report) (after : Text) (p q : Found) (rest : Text) → r.figures ≡ f →
    r.found ≡ Some p → program_of q rest ≡ program_of p after →
    entry (record { figures = f; found = Some q }) rest ≡ entry r after
report_of_program f r after p q rest figures found e =
    let a : q ≡ p = ap (λ (x : Found × Text). x.0) (some_is e) in
    let b : rest ≡ after = ap (λ (x : Found × Text). x.1) (some_is e) in
    let o : Some q ≡ r.found = ap (λ (x : Found). Some x) a ∙ sym found in
    λ i. Some (record { figures = sym figures i; found = o i }, b i)
