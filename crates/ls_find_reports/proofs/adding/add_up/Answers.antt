-- Why `add_up` in src/adding.rt keeps its clauses `refused` and `sum` and what `sum_from` requires.

use Rattle.std.proofs.Common.{◌∙◌, Ok, ap, map, subst, sym}
use Rattle.std.proofs.lemmas.Result.{err_from_is_err_and}
use Rattle.ls_find_reports.specs.Reports.{plain_report, Report, report_text}
use Rattle.ls_find_reports.specs.Sums.{Adds, AddsTo, Apart, IsOther, Nothing, Other, OutOfMemory}
use Rattle.ls_find_reports.proofs.Guesses.{not_both}
use Rattle.ls_find_reports.proofs.Ordered.{are_in, first_are, more_are, none_in, not_read}
use Rattle.ls_find_reports.proofs.adding.add_up.Goals as goal

pub returns-in_err-reports-clause-refused : goal.returns-in_err-reports-clause-refused
returns-in_err-reports-clause-refused c =
    let p = err_from_is_err_and c.from_residual.result c.from_residual.ensures.1 in
    rw (p.1, p.2) (not_read c.args.wanted c.args.text.now c.in_err-reports.field-0.0 c.in_err-reports.ensures.fault)

pub returns-in_err-sort-clause-refused : goal.returns-in_err-sort-clause-refused
returns-in_err-sort-clause-refused c =
    let p = err_from_is_err_and c.from_residual-in_err-sort.result c.from_residual-in_err-sort.ensures.1 in
    rw (p.1, p.2) OutOfMemory

pub returns-in_default-clause-refused : goal.returns-in_default-clause-refused
returns-in_default-clause-refused c =
    Nothing (none_in c.args.text.now c.in_ok-reports.reports.items c.sort.new.reports.items
    c.in_ok-reports.ensures.found
    c.in_ok-sort.ensures.permutes (sym c.as_slice.ensures.value ∙ c.in_default.ensures))

pub sum_from-requires-clause-first : goal.sum_from-requires-clause-first
sum_from-requires-clause-first c =
    first_are c.args.text.now c.in_ok-reports.reports.items c.sort.new.reports.items c.in_ok-reports.ensures.found
    c.in_ok-sort.ensures.permutes c.in_ok-sort.ensures.rise c.in-Some.first c.in-Some.more.now
    (sym c.as_slice.ensures.value ∙ c.in-Some.ensures)

pub sum_from-requires-clause-more : goal.sum_from-requires-clause-more
sum_from-requires-clause-more c =
    more_are c.args.text.now c.in_ok-reports.reports.items c.sort.new.reports.items c.in_ok-reports.ensures.found
    c.in_ok-sort.ensures.permutes c.in_ok-sort.ensures.rise c.in-Some.first c.in-Some.more.now
    (sym c.as_slice.ensures.value ∙ c.in-Some.ensures)

pub returns-in_default-sum_from-clause-refused : goal.returns-in_default-sum_from-clause-refused
returns-in_default-sum_from-clause-refused c =
    let there = are_in c.args.text.now c.in_ok-reports.reports.items c.sort.new.reports.items
    c.in_ok-reports.ensures.found
    c.in_ok-sort.ensures.permutes c.in_ok-sort.ensures.rise c.in-Some.first c.in-Some.more.now
    (sym c.as_slice.ensures.value ∙ c.in-Some.ensures) in
    Apart (plain_report c.in-Some.first) (map plain_report c.in-Some.more.now) there c.in_default-sum_from.ensures.none

pub returns-then-is_other-clause-refused : goal.returns-then-is_other-clause-refused
returns-then-is_other-clause-refused c =
    let there = are_in c.args.text.now c.in_ok-reports.reports.items c.sort.new.reports.items
    c.in_ok-reports.ensures.found
    c.in_ok-sort.ensures.permutes c.in_ok-sort.ensures.rise c.in-Some.first c.in-Some.more.now
    (sym c.as_slice.ensures.value ∙ c.in-Some.ensures) in
    let sum = c.in-Some-sum_from.ensures.some in
    Other (plain_report c.in-Some.first) (map plain_report c.in-Some.more.now) there sum.0
    (subst (λ (r : Report). IsOther c.args.wanted r.figures) sum.1 (c.is_other.ensures.0 c.if-is_other.true))

pub returns-in_err-print_report-clause-refused : goal.returns-in_err-print_report-clause-refused
returns-in_err-print_report-clause-refused c =
    let p = err_from_is_err_and c.from_residual-in_err-print_report.result
    c.from_residual-in_err-print_report.ensures.1 in
    rw (p.1, p.2) OutOfMemory

pub returns-clause-sum : goal.returns-clause-sum
returns-clause-sum c =
    let there = are_in c.args.text.now c.in_ok-reports.reports.items c.sort.new.reports.items
    c.in_ok-reports.ensures.found
    c.in_ok-sort.ensures.permutes c.in_ok-sort.ensures.rise c.in-Some.first c.in-Some.more.now
    (sym c.as_slice.ensures.value ∙ c.in-Some.ensures) in
    let sum = c.in-Some-sum_from.ensures.some in
    subst (λ t. AddsTo c.args.wanted c.args.text.now (Ok t)) (sym (c.in_ok-print_report.ensures ∙ ap report_text sum.1))
    (Adds (plain_report c.in-Some.first) (map plain_report c.in-Some.more.now) there sum.0
    (λ other. not_both (c.is_other.ensures.1
    (subst (λ (r : Report). IsOther c.args.wanted r.figures) (sym sum.1) other)) c.if-is_other.false))
