-- Why `run` in src/choosing.rt keeps its contract.

use Rattle.std.proofs.Common.{subst}
use Rattle.std.proofs.lemmas.Result.{err_from_is_err_and}
use Rattle.ls_checked.specs.PlainProgram.{plain_program}
use Rattle.ls_types_checked.specs.CheckedFile.{elaborated_file}
use Rattle.ls_types_reading.proofs.Standing.{no_program}
use Rattle.ls_faults.specs.Faults.{lifted_program}
use Rattle.ls_faults.specs.Given.{GivesText}
use Rattle.ls_faults.proofs.Answering.{fails, wider}
use Rattle.ls_commands.specs.Viewed.{names_in}
use Rattle.ls_choosing.specs.Chosen.{NoProgram, Ran, RefersTo, RunsTo, wanted_of}
use Rattle.ls_choosing.proofs.choosing.run.Goals as goal

pub returns-in_err-program : goal.returns-in_err-program
returns-in_err-program c =
    let p = err_from_is_err_and c.from_residual.result c.from_residual.ensures.1 in
    let o = elaborated_file c.args.checked.now in
    rw (p.1, p.2) (fails (RunsTo (wanted_of c.args.wanted) o) (lifted_program c.in_err-program.field-0.0)
    (NoProgram c.in_err-program.field-0.0
    (no_program o c.args.wanted.texts.program.now c.in_err-program.field-0.0 c.in_err-program.ensures.refused
    c.in_err-program.ensures.stands)))

pub returns : goal.returns
returns c =
    let w = wanted_of c.args.wanted in
    let o = elaborated_file c.args.checked.now in
    let q = plain_program c.in_ok-program.program in
    wider (RefersTo w (names_in o q)) (RunsTo w o) c.referred.result (λ a h. Ran q a c.in_ok-program.ensures.spelled h)
    (subst (λ names. GivesText (RefersTo w names) c.referred.result) c.names_in.ensures c.referred.ensures)
