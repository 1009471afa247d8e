-- Why `body_in` in src/programs.rt keeps its clauses `reads` and `is`.

use Rattle.std.proofs.Common.{◌∙◌, ◌++◌, ◌∷◌, Some, ap, codes, sym}
use Rattle.ls_report.specs.Cut.{cut}
use Rattle.ls_report.proofs.CutLemmas.{first_of_two, none_is, second_of_two}
use Rattle.ls_find_reports.proofs.Bodies.{behind_is, behind_one, body_is, line_cut, program_cut}
use Rattle.ls_find_reports.proofs.Lines.{cut_lacks}
use Rattle.ls_find_reports.proofs.programs.body_in.Goals as goal

pub returns-in_default-clause-reads : goal.returns-in_default-clause-reads
returns-in_default-clause-reads c = λ program schedule rest l m e.
    absurd (none_is (c.in_default.ensures ∙ program_cut c.args.text.now program schedule rest l e))

pub returns-in_default-after-clause-reads : goal.returns-in_default-after-clause-reads
returns-in_default-after-clause-reads c = λ program schedule rest l m e.
    let both = behind_is c.args.text.now c.in-Some.program.now c.in-Some.behind.now program schedule rest
    c.in-Some.ensures l e in
    absurd (c.in_default-after.ensures (schedule ++ 10 ∷ rest) both.1)

pub returns-in_default-cut-clause-reads : goal.returns-in_default-cut-clause-reads
returns-in_default-cut-clause-reads c = λ program schedule rest l m e.
    let both = behind_is c.args.text.now c.in-Some.program.now c.in-Some.behind.now program schedule rest
    c.in-Some.ensures l e in
    let lines = behind_one (codes "%\n") c.in-Some-after.lines.now (schedule ++ 10 ∷ rest)
    (sym c.in-Some-after.ensures ∙ both.1) in
    absurd (none_is (c.in_default-cut.ensures ∙ ap (cut 10) lines ∙ line_cut schedule rest m))

pub returns-clause-is : goal.returns-clause-is
returns-clause-is c = (
  body_is c.args.text.now c.in-Some.program.now c.in-Some.behind.now c.in-Some-after.lines.now
      c.in-Some-cut.schedule.now c.in-Some-cut.rest.now c.in-Some.ensures c.in-Some-after.ensures c.in-Some-cut.ensures,
  cut_lacks 37 c.args.text.now c.in-Some.program.now c.in-Some.behind.now (sym c.in-Some.ensures),
  cut_lacks 10 c.in-Some-after.lines.now c.in-Some-cut.schedule.now c.in-Some-cut.rest.now (sym c.in-Some-cut.ensures),
)

pub returns-clause-reads : goal.returns-clause-reads
returns-clause-reads c = λ program schedule rest l m e.
    let both = behind_is c.args.text.now c.in-Some.program.now c.in-Some.behind.now program schedule rest
    c.in-Some.ensures l e in
    let lines = behind_one (codes "%\n") c.in-Some-after.lines.now (schedule ++ 10 ∷ rest)
    (sym c.in-Some-after.ensures ∙ both.1) in
    let more = c.in-Some-cut.ensures ∙ ap (cut 10) lines ∙ line_cut schedule rest m in
    let line = first_of_two c.in-Some-cut.schedule.now c.in-Some-cut.rest.now schedule rest more in
    let after = second_of_two c.in-Some-cut.schedule.now c.in-Some-cut.rest.now schedule rest more in
    λ i. Some (both.0 i, line i, after i)
