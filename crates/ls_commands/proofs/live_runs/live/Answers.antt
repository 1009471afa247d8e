-- Why `live` in src/live_runs.rt keeps its contract.

use Rattle.std.proofs.lemmas.Result.{err_from_is_err_and}
use Rattle.ls_commands.specs.Lived.{LivedOf}
use Rattle.ls_commands.proofs.Answering.{not_compiled, on_image}
use Rattle.ls_commands.proofs.ReadBackLemmas.{lived_of}
use Rattle.ls_commands.proofs.live_runs.live.Goals as goal

pub returns-in_err-image : goal.returns-in_err-image
returns-in_err-image g c =
    let p = err_from_is_err_and c.from_residual.result c.from_residual.ensures.1 in
    rw (p.1, p.2) (not_compiled c.args.classes.now c.args.program.now (LivedOf c.args.cells c.args.limit)
    c.in_err-image.field-0.0 c.in_err-image.ensures.refused)

pub returns : goal.returns
returns g c =
    let i = c.in_ok-image.image in
    let compiles = c.in_ok-image.ensures.compiled in
    on_image c.args.classes.now c.args.program.now (LivedOf c.args.cells c.args.limit) i c.lived.result compiles
    c.in_ok-image.ensures.within
    (lived_of c.compiled_is_readable.ensures c.args.classes.now c.args.program.now i compiles c.args.cells
    c.schedules_read_back.ensures.printed c.args.limit
    c.lived.result c.lived.ensures)
