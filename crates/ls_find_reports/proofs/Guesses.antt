-- What is counted by the line that is printed of it.
use Rattle.std.proofs.Common.{◌≡◌, ◌∙◌, ◌<◌, ◌^◌, ℕ, zero, suc, Bool, true, false, ap, arith, refl, sym, subst}
use Rattle.std.specs.Fmt.{decimal}
use Rattle.ls_report.specs.Events.{Text}
use Rattle.ls_find_reports.specs.Reports.{AreFigures}
use Rattle.ls_find_reports.specs.Words.{word_at}
use Rattle.ls_find_reports.proofs.WordLemmas.{count_word, cut_first_word, cut_fits, cut_word, doubles_fit, doubles_word}
use Rattle.ls_find_reports.proofs.WordLemmas.{from_fits}
use Rattle.ls_find_reports.proofs.WordLemmas.{from_word, to_fits, to_word}
use Rattle.ls_find_reports.specs.Printing.{figures_line}
use Rattle.ls_find_reports.specs.declared.figures.Figures.{Figures}

pub not_both : {b : Bool} → b ≡ true → b ≡ false → ⊥
not_both up down = cc

-- the number that is read of a word
abbrev pub Reads : Text → ℕ → ℕ → Type 0
Reads line place number = (n : ℕ) → n < 2 ^ 64 → word_at place line ≡ decimal n → number ≡ n

-- where none is cut the first number is 0, and else it is read
pub record ReadsFirst (line : Text) (cut first : ℕ) : Type 0 where
  pub none : cut ≡ 0 → first ≡ 0
  pub some : 0 < cut → Reads line 15 first

first_is : (line : Text) (f : Figures) (first : ℕ) → AreFigures f → line ≡ figures_line f →
    ReadsFirst line f.cut first →
    first ≡ f.first
first_is line f first is e reads = by_cut f.cut refl
  where
    by_cut : (n : ℕ) → n ≡ f.cut → first ≡ f.first
    by_cut zero same = reads.none (sym same) ∙ sym (is.none (sym same))
    by_cut (suc n) same =
        let some : 0 < f.cut = omega (arith, same) in
        reads.some some f.first is.first (ap (word_at 15) e ∙ cut_first_word f is some)

pub all_read : (line : Text) (g f : Figures) → AreFigures f → line ≡ figures_line f → Reads line 2 g.from →
    Reads line 4 g.to → Reads line 6 g.count → Reads line 8 g.doubles → Reads line 11 g.cut →
    ReadsFirst line g.cut g.first → g ≡ f
all_read line g f is e from to count doubles cut first =
    let a : g.from ≡ f.from = from f.from (from_fits f is) (ap (word_at 2) e ∙ from_word f is) in
    let b : g.to ≡ f.to = to f.to (to_fits f is) (ap (word_at 4) e ∙ to_word f is) in
    let c : g.count ≡ f.count = count f.count is.count (ap (word_at 6) e ∙ count_word f is) in
    let d : g.doubles ≡ f.doubles = doubles f.doubles (doubles_fit f is) (ap (word_at 8) e ∙ doubles_word f is) in
    let k : g.cut ≡ f.cut = cut f.cut (cut_fits f is) (ap (word_at 11) e ∙ cut_word f is) in
    let l : g.first ≡ f.first = first_is line f g.first is e (subst (λ n. ReadsFirst line n g.first) k first) in
    λ i. record { from = a i; to = b i; count = c i; doubles = d i; cut = k i; first = l i }
