-- Why `tallied` in src/batching.rt keeps its contract.

use Rattle.std.proofs.Common.{◌∙◌, ap}
use Rattle.std.proofs.lemmas.Result.{err_from_is_err_and}
use Rattle.ls_checked.specs.PlainProgram.{plain_program}
use Rattle.ls_batch.specs.Printing.{tally_text}
use Rattle.ls_commands.proofs.TalliedLemmas.{batch_fails, batch_tells}
use Rattle.ls_commands.proofs.batching.tallied.Goals as goal

pub returns-in_err-tally : goal.returns-in_err-tally
returns-in_err-tally g c =
    let p = err_from_is_err_and c.from_residual.result c.from_residual.ensures.1 in
    rw (p.1, p.2) (batch_fails c.args.image.now c.args.cells c.args.sampling c.in_err-tally.field-0.0
    c.in_err-tally.ensures.bad_cells c.in_err-tally.ensures.bad_count)

pub returns : goal.returns
returns g c =
    let tally = c.in_ok-tally.tally in
    let said = c.in_ok-print_tally.ensures ∙ ap (λ q. tally_text (plain_program q) tally) c.program.ensures in
    batch_tells c.args.image.now c.args.cells c.args.sampling tally _ c.in_ok-tally.ensures.bad_cells
    c.in_ok-tally.ensures.bad_count c.in_ok-tally.ensures.tally said
