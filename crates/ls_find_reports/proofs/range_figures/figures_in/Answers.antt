-- Why `figures_in` in src/range_figures.rt keeps its clause `reads`.

use Rattle.std.proofs.Common.{◌∙◌, Some, ap, subst, sym}
use Rattle.ls_find_reports.specs.Reports.{AreFigures}
use Rattle.ls_find_reports.proofs.Guesses.{not_both}
use Rattle.ls_find_reports.specs.Printing.{figures_line}
use Rattle.ls_find_reports.proofs.range_figures.figures_in.Goals as goal

pub returns-then-not-are_figures-clause-reads : goal.returns-then-not-are_figures-clause-reads
returns-then-not-are_figures-clause-reads c = λ f is e.
    let same = c.guessed-figures.ensures f is e in
    absurd (not_both (c.are_figures.ensures.1 (subst AreFigures (sym same) is)) c.if-not-are_figures.true)

pub returns-then-not-is_line-clause-reads : goal.returns-then-not-is_line-clause-reads
returns-then-not-is_line-clause-reads c = λ f is e.
    let same = c.guessed-figures.ensures f is e in
    absurd (not_both
    (c.is_line.ensures.1 (e ∙ ap figures_line (sym same) ∙ sym c.in_ok-put_figures.ensures ∙
    sym c.as_str.ensures.value))
    c.if-not-is_line.true)

pub returns-clause-reads : goal.returns-clause-reads
returns-clause-reads c = λ f is e. ap Some (c.guessed-figures.ensures f is e)
