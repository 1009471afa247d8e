-- Why `judged` in src/judged_batch.rt keeps its contract and what `print_judged` requires.

use Rattle.std.proofs.Common.{ap, subst, sym}
use Rattle.std.proofs.lemmas.Result.{err_from_is_err_and}
use Rattle.ls_checked.specs.PlainProgram.{plain_program}
use Rattle.ls_batch.specs.Judged.{AreHistoriesOf}
use Rattle.ls_commands.proofs.JudgedLemmas.{judging_fails, judging_tells, rows_named}
use Rattle.ls_commands.proofs.judged_batch.judged.Goals as goal

pub returns-in_err-tally : goal.returns-in_err-tally
returns-in_err-tally g c =
    let p = err_from_is_err_and c.from_residual.result c.from_residual.ensures.1 in
    rw (p.1, p.2) (judging_fails c.args.image.now c.args.cells c.args.sampling c.in_err-tally.field-0.0
    c.in_err-tally.ensures.bad_cells c.in_err-tally.ensures.bad_count)

pub print_judged-requires : goal.print_judged-requires
print_judged-requires g c =
    let tally = c.in_ok-tally.tally in
    subst (λ q. AreHistoriesOf (plain_program q) tally) (sym c.program.ensures)
    (rows_named c.args.image.now c.args.cells c.args.sampling c.requires.readable c.seeds_replay.ensures tally
    c.in_ok-tally.ensures.bad_cells c.in_ok-tally.ensures.tally)

pub returns : goal.returns
returns g c =
    let ok = c.in_ok-tally.ensures in
    judging_tells c.args.image.now c.args.cells c.args.sampling c.in_ok-tally.tally _ _ _ c.file_in.ensures
    (ap plain_program c.program.ensures) ok.bad_cells ok.bad_count ok.tally
    c.in_ok-print_judged.ensures
