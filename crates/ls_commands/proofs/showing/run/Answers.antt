-- Why `run` in src/showing.rt keeps its contract.

use Rattle.std.proofs.Common.{◌≡◌, subst}
use Rattle.std.proofs.lemmas.Result.{err_from_is_err_and}
use Rattle.ls_checked.specs.PlainProgram.{plain_program}
use Rattle.ls_types_checked.specs.CheckedFile.{elaborated_file}
use Rattle.ls_faults.specs.Given.{GivesText}
use Rattle.ls_commands.specs.Viewed.{viewed}
use Rattle.ls_types_reading.proofs.Standing.{no_program}
use Rattle.ls_commands.proofs.ViewedLemmas.{program_fails, program_runs}
use Rattle.ls_commands.proofs.showing.run.Goals as goal

pub returns-in_err-program : goal.returns-in_err-program
returns-in_err-program c =
    let p = err_from_is_err_and c.from_residual.result c.from_residual.ensures.1 in
    rw (p.1, p.2) (program_fails c.args.view (elaborated_file c.args.checked.now) c.args.program.now c.args.schedule.now
    c.in_err-program.field-0.0
    (no_program (elaborated_file c.args.checked.now) c.args.program.now c.in_err-program.field-0.0
    c.in_err-program.ensures.refused c.in_err-program.ensures.stands))

pub returns : goal.returns
returns c =
    program_runs c.args.view (elaborated_file c.args.checked.now) c.args.program.now c.args.schedule.now
    (plain_program c.in_ok-program.program) c.viewed.result c.in_ok-program.ensures.spelled
    (subst (λ names. GivesText (λ a. a ≡ viewed c.args.view names c.args.schedule.now) c.viewed.result)
    c.names_in.ensures c.viewed.ensures)
