-- Why `judged_like` in src/judged_batch.rt keeps its contract and what `print_judged_like` requires.

use Rattle.std.proofs.Common.{◌∙◌, ap, subst, sym}
use Rattle.std.proofs.lemmas.Result.{err_from_is_err_and}
use Rattle.ls_checked.specs.PlainProgram.{plain_program}
use Rattle.ls_batch.specs.Judged.{AreHistoriesOf}
use Rattle.ls_commands.proofs.JudgedLemmas.{rows_named}
use Rattle.ls_commands.proofs.LikenessLemmas.{like_fails, like_tells}
use Rattle.ls_commands.proofs.judged_batch.judged_like.Goals as goal

pub returns-in_err-tally : goal.returns-in_err-tally
returns-in_err-tally g c =
    let p = err_from_is_err_and c.from_residual.result c.from_residual.ensures.1 in
    rw (p.1, p.2) (like_fails c.args.like.now c.args.image.now c.args.cells c.args.sampling c.in_err-tally.field-0.0
    c.in_err-tally.ensures.bad_cells c.in_err-tally.ensures.bad_count)

pub print_judged_like-requires : goal.print_judged_like-requires
print_judged_like-requires g c =
    let tally = c.in_ok-tally.tally in
    subst (λ q. AreHistoriesOf (plain_program q) tally) (sym c.program-2.ensures)
    (rows_named c.args.image.now c.args.cells c.args.sampling c.requires.readable c.seeds_replay.ensures tally
    c.in_ok-tally.ensures.bad_cells c.in_ok-tally.ensures.tally)

pub returns : goal.returns
returns g c =
    let ok = c.in_ok-tally.ensures in
    like_tells c.args.like.now c.args.image.now c.args.cells c.args.sampling c.in_ok-tally.tally _ _ _ _
    (c.own-specification.ensures.file ∙ c.file_in.ensures)
    (c.own-specification.ensures.program ∙ ap plain_program c.program.ensures)
    (ap plain_program c.program-2.ensures) ok.bad_cells ok.bad_count ok.tally
    c.in_ok-print_judged_like.ensures
