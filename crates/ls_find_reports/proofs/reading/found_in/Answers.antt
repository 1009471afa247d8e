-- Why `found_in` in src/reading.rt keeps its clauses `reads` and `is`.

use Rattle.std.proofs.Common.{◌≡◌, ◌∙◌, ap, refl, subst, sym, true}
use Rattle.std.specs.Prelude.{option_map}
use Rattle.ls_report.proofs.CutLemmas.{none_is}
use Rattle.ls_find_reports.specs.Reports.{lacks, plain_reason}
use Rattle.ls_find_reports.proofs.Bodies.{with_feed}
use Rattle.ls_find_reports.proofs.Entries.{program_is, tail_lines}
use Rattle.ls_find_reports.proofs.Lines.{lacks_end}
use Rattle.ls_find_reports.specs.Printing.{number_text}
use Rattle.ls_find_reports.proofs.reading.found_in.Goals as goal

pub returns-in_default-clause-reads : goal.returns-in_default-clause-reads
returns-in_default-clause-reads c = λ f after is comes head tail.
    absurd (none_is (ap (option_map plain_reason) (sym c.in_default.is) ∙
    c.in_ok-number.ensures.reads f.number f.reason is.number head))

pub returns-in_default-body_in-clause-reads : goal.returns-in_default-body_in-clause-reads
returns-in_default-body_in-clause-reads c = λ f after is comes head tail.
    absurd (none_is (c.in_default-body_in.ensures.reads f.program is.schedule.0 after is.program is.schedule.2
    (tail_lines c.args.behind.now f after is tail)))

pub returns-clause-is : goal.returns-clause-is
returns-clause-is c =
    let head = rw c.in-Some.is at c.in_ok-number.ensures.is in
    let body = c.in-Some-body_in.ensures.is in
    let reason : lacks 10 c.in-Some.reason.now ≡ true =
    lacks_end 10 (number_text c.in-Some.number c.args.figures.count) c.in-Some.reason.now
    (subst (λ t. lacks 10 t ≡ true) head.1 c.requires) in (
      record {
        number = head.0;
        reason = reason;
        program = body.1;
        lines = sym c.are_lines.ensures ∙ c.if-not-are_lines.false;
        schedule = (c.in-Some-body_in.schedule.now, refl, body.2);
      },
      c.comes_after.ensures.0 c.if-not-comes_after.false,
      head.1,
      body.0 ∙ with_feed c.in-Some-body_in.program.now c.in-Some-body_in.schedule.now c.in-Some-body_in.after.now,
    )

pub returns-clause-reads : goal.returns-clause-reads
returns-clause-reads c = λ f after is comes head tail.
    program_is f after is c.in-Some.number c.in-Some.reason.now c.in-Some-body_in.program.now
    c.in-Some-body_in.schedule.now c.in-Some-body_in.after.now
    (ap (option_map plain_reason) (sym c.in-Some.is) ∙ c.in_ok-number.ensures.reads f.number f.reason is.number head)
    (c.in-Some-body_in.ensures.reads f.program is.schedule.0 after is.program is.schedule.2
    (tail_lines c.args.behind.now f after is tail))
