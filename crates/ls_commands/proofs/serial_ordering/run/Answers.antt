-- Why `run` in src/serial_ordering.rt keeps its contract.

use Rattle.std.proofs.lemmas.Result.{err_from_is_err_and}
use Rattle.ls_checked.specs.PlainProgram.{plain_program}
use Rattle.ls_types_checked.specs.CheckedFile.{elaborated_file}
use Rattle.ls_types_reading.proofs.Standing.{no_program}
use Rattle.ls_commands.proofs.SerialLemmas.{no_program_orders, program_orders}
use Rattle.ls_commands.proofs.serial_ordering.run.Goals as goal

pub returns-in_err-program : goal.returns-in_err-program
returns-in_err-program c =
    let p = err_from_is_err_and c.from_residual.result c.from_residual.ensures.1 in
    rw (p.1, p.2) (no_program_orders (elaborated_file c.args.checked.now) c.args.program.now c.args.history.now
    c.in_err-program.field-0.0
    (no_program (elaborated_file c.args.checked.now) c.args.program.now c.in_err-program.field-0.0
    c.in_err-program.ensures.refused c.in_err-program.ensures.stands))

pub returns : goal.returns
returns c =
    program_orders (elaborated_file c.args.checked.now) c.args.program.now c.args.history.now
    (plain_program c.in_ok-program.program) c.ordered.result c.in_ok-program.ensures.spelled c.ordered.ensures
