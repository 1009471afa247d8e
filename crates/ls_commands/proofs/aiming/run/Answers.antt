-- Why `run` in src/aiming.rt keeps its contract.

use Rattle.std.proofs.Common.{subst}
use Rattle.std.proofs.lemmas.Result.{err_from_is_err_and}
use Rattle.ls_types_checked.specs.CheckedFile.{elaborated_file}
use Rattle.ls_faults.specs.Given.{GivesText}
use Rattle.ls_commands.specs.Aimed.{IsAim}
use Rattle.ls_types_reading.proofs.Standing.{no_program}
use Rattle.ls_commands.proofs.AimedLemmas.{no_program_aims, program_aims}
use Rattle.ls_commands.proofs.aiming.run.Goals as goal

pub returns-in_err-program : goal.returns-in_err-program
returns-in_err-program c =
    let p = err_from_is_err_and c.from_residual.result c.from_residual.ensures.1 in
    rw (p.1, p.2) (no_program_aims (elaborated_file c.args.checked.now) c.args.program.now c.args.targets.now
    c.in_err-program.field-0.0
    (no_program (elaborated_file c.args.checked.now) c.args.program.now c.in_err-program.field-0.0
    c.in_err-program.ensures.refused c.in_err-program.ensures.stands))

pub returns : goal.returns
returns c =
    program_aims c.schedules_read_back.ensures.printed c.schedules_read_back.ensures.read
    (elaborated_file c.args.checked.now) c.args.program.now c.args.targets.now
    c.in_ok-program.program c.aimed.result c.in_ok-program.ensures.spelled
    (subst (λ names. GivesText (IsAim names c.args.targets.now) c.aimed.result) c.names_in.ensures c.aimed.ensures)
