-- Why `least_with_row` in src/cutting.rt keeps its clause `least`.

use Rattle.std.proofs.Common.{◌∙◌, ap, sym}
use Rattle.ls_checked.specs.Plain.{plain_file}
use Rattle.ls_checked.specs.PlainProgram.{plain_program}
use Rattle.ls_verdicts.proofs.Leasts.{least_as_it_was}
use Rattle.ls_explore.specs.Tellings.{schedule_of}
use Rattle.ls_explore_reports.specs.Judged.{is_illegal}
use Rattle.ls_explore_reports.proofs.CutRows.{not_illegal}
use Rattle.ls_explore_reports.proofs.cutting.least_with_row.Goals as goal

pub returns-then-not-is_illegal-clause-least : goal.returns-then-not-is_illegal-clause-least
returns-then-not-is_illegal-clause-least c = λ schedules len so.
    let file = plain_file c.args.names.file.now in
    let program = plain_program c.args.names.program.now in
    let j = c.args.judged.now in
    least_as_it_was file program schedules (schedule_of c.args.setup j.row) c.args.least so
    (not_illegal file program c.args.setup j c.requires
    (ap is_illegal (sym c.verdict.ensures) ∙ sym c.is_illegal.ensures ∙ c.if-not-is_illegal.true))
