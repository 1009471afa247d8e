-- Why `replay` in src/replaying.rt keeps its contract.

use Rattle.std.proofs.lemmas.Result.{err_from_is_err_and}
use Rattle.ls_commands.specs.Compiled.{ReplayedOf}
use Rattle.ls_commands.proofs.Answering.{not_compiled, on_image}
use Rattle.ls_commands.proofs.ReadBackLemmas.{replayed_of}
use Rattle.ls_commands.proofs.replaying.replay.Goals as goal

pub returns-in_err-image : goal.returns-in_err-image
returns-in_err-image c =
    let p = err_from_is_err_and c.from_residual.result c.from_residual.ensures.1 in
    rw (p.1, p.2) (not_compiled c.args.classes.now c.args.program.now (ReplayedOf c.args.cells c.args.schedule.now)
    c.in_err-image.field-0.0 c.in_err-image.ensures.refused)

pub returns : goal.returns
returns c =
    let i = c.in_ok-image.image in
    let compiles = c.in_ok-image.ensures.compiled in
    on_image c.args.classes.now c.args.program.now (ReplayedOf c.args.cells c.args.schedule.now) i c.replayed.result
    compiles c.in_ok-image.ensures.within
    (replayed_of c.compiled_is_readable.ensures c.args.classes.now c.args.program.now i compiles c.args.cells
    c.args.schedule.now c.replayed.result c.replayed.ensures)
