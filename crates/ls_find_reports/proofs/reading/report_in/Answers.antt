-- Why `report_in` in src/reading.rt keeps its clauses `reads` and `is` and what `with_figures` requires.

use Rattle.std.proofs.Common.{◌∙◌, sym}
use Rattle.std.proofs.lemmas.Result.{IfOk-weaker}
use Rattle.ls_report.proofs.CutLemmas.{none_is, some_is}
use Rattle.ls_find_reports.specs.Reports.{plain_report}
use Rattle.ls_find_reports.proofs.Entries.{has_lines, no_first, no_second, report_is, some_weaker, with_lines}
use Rattle.ls_find_reports.proofs.Lines.{cut_lacks}
use Rattle.ls_find_reports.proofs.reading.report_in.Goals as goal

pub returns-in_default-clause-reads : goal.returns-in_default-clause-reads
returns-in_default-clause-reads c = λ r after is e. absurd (no_first c.args.text.now r after c.in_default.ensures is e)

pub returns-in_default-cut-clause-reads : goal.returns-in_default-cut-clause-reads
returns-in_default-cut-clause-reads c = λ r after is e.
    absurd (no_second c.args.text.now c.in-Some.first.now c.in-Some.behind.now r after c.in-Some.ensures
    c.in_default-cut.ensures is e)

pub returns-in_default-2-clause-reads : goal.returns-in_default-2-clause-reads
returns-in_default-2-clause-reads c = λ r after is e.
    let has = has_lines c.args.text.now c.in-Some.first.now c.in-Some.behind.now c.in-Some-cut.second.now
    c.in-Some-cut.after.now r after c.in-Some.ensures c.in-Some-cut.ensures is e in
    absurd (none_is (sym c.in_default-2.is ∙ c.in_ok-figures.ensures.reads r.figures is.figures has.second))

pub with_figures-requires : goal.with_figures-requires
with_figures-requires c = cut_lacks 10 c.args.text.now c.in-Some.first.now c.in-Some.behind.now (sym c.in-Some.ensures)

pub returns-clause-is : goal.returns-clause-is
returns-clause-is c =
    let figures = rw c.in-Some-2.is at c.in_ok-figures.ensures.is in
    IfOk-weaker c.with_figures.result _ _
    (λ o h. some_weaker o _ _
    (λ p w. report_is c.args.text.now c.in-Some.first.now c.in-Some.behind.now c.in-Some-cut.second.now
    c.in-Some-cut.after.now c.in-Some-2.figures (plain_report p.0) p.1.now c.in-Some.ensures c.in-Some-cut.ensures
    figures.0 figures.1 w) h)
    c.with_figures.ensures.is

pub returns-clause-reads : goal.returns-clause-reads
returns-clause-reads c = λ r after is e.
    let has = has_lines c.args.text.now c.in-Some.first.now c.in-Some.behind.now c.in-Some-cut.second.now
    c.in-Some-cut.after.now r after c.in-Some.ensures c.in-Some-cut.ensures is e in
    let same = sym (some_is (sym c.in-Some-2.is ∙ c.in_ok-figures.ensures.reads r.figures is.figures has.second)) in
    c.with_figures.ensures.reads r after
    (with_lines c.in-Some-2.figures c.in-Some.first.now c.in-Some-cut.second.now c.in-Some-cut.after.now r
    after same is has)
