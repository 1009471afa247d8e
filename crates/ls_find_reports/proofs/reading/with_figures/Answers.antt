-- Why `with_figures` in src/reading.rt keeps its clauses `is` and `reads`.

use Rattle.std.proofs.Common.{◌∙◌, ap, refl, sym}
use Rattle.std.specs.Prelude.{option_map}
use Rattle.ls_report.proofs.CutLemmas.{none_is}
use Rattle.ls_find_reports.specs.Reports.{plain_found, plain_program}
use Rattle.ls_find_reports.proofs.Entries.{none_entry, program_entry, report_of_program}
use Rattle.ls_find_reports.proofs.Guesses.{not_both}
use Rattle.ls_find_reports.proofs.reading.with_figures.Goals as goal

pub returns-then-is_line-clause-is : goal.returns-then-is_line-clause-is
returns-then-is_line-clause-is c = record {
  figures = refl;
  found = tt;
  number = tt;
  line = c.is_line.ensures.0 c.if-is_line.true ∙ c.none_line.ensures;
  behind = refl;
}

pub returns-then-is_line-clause-reads : goal.returns-then-is_line-clause-reads
returns-then-is_line-clause-reads c = λ r after w.
    none_entry c.args.figures c.args.line.now c.args.behind.now r after
    (c.is_line.ensures.0 c.if-is_line.true ∙ c.none_line.ensures) w

pub returns-in-Some-clause-is : goal.returns-in-Some-clause-is
returns-in-Some-clause-is c =
    let q = rw c.in-Some.is at c.in_ok-program.ensures.is in
    record { figures = refl; found = q.0; number = q.1; line = q.2; behind = q.3 }

pub returns-in-Some-clause-reads : goal.returns-in-Some-clause-reads
returns-in-Some-clause-reads c = λ r after w.
    let p = program_entry c.args.figures c.args.line.now c.args.behind.now r after
    (λ e. not_both (c.is_line.ensures.1 (e ∙ sym c.none_line.ensures)) c.if-is_line.false) w in
    report_of_program c.args.figures r after p.0 (plain_found c.in-Some.program) c.in-Some.after.now w.figures p.1
    (ap (option_map plain_program) (sym c.in-Some.is) ∙ c.in_ok-program.ensures.reads p.0 after p.2 p.3 p.4 p.5)

pub returns-in-None-clause-reads : goal.returns-in-None-clause-reads
returns-in-None-clause-reads c = λ r after w.
    let p = program_entry c.args.figures c.args.line.now c.args.behind.now r after
    (λ e. not_both (c.is_line.ensures.1 (e ∙ sym c.none_line.ensures)) c.if-is_line.false) w in
    absurd (none_is (ap (option_map plain_program) (sym c.in-None.is) ∙
    c.in_ok-program.ensures.reads p.0 after p.2 p.3 p.4 p.5))
