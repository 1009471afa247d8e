-- Why `count` in src/compiling.rt keeps its contract.

use Rattle.std.proofs.Common.{ap, Ok}
use Rattle.std.proofs.lemmas.Result.{err_from_is_err_and}
use Rattle.ls_commands.specs.Compiled.{Counted, OnImage}
use Rattle.ls_commands.proofs.Answering.{not_compiled}
use Rattle.ls_commands.proofs.compiling.count.Goals as goal

pub returns-in_err-image : goal.returns-in_err-image
returns-in_err-image c =
    let p = err_from_is_err_and c.from_residual.result c.from_residual.ensures.1 in
    rw (p.1, p.2) (not_compiled c.args.classes.now c.args.program.now Counted c.in_err-image.field-0.0
    c.in_err-image.ensures.refused)

pub returns : goal.returns
returns c = OnImage c.in_ok-image.image _ c.in_ok-image.ensures.compiled c.in_ok-image.ensures.within
    (ap (λ t. Ok t) c.in_ok-counts_text.ensures)
