-- Why `sample` in src/sampling.rt keeps its contract.

use Rattle.std.proofs.lemmas.Result.{err_from_is_err_and}
use Rattle.ls_commands.specs.Sampled.{SampledOf}
use Rattle.ls_commands.proofs.Answering.{not_compiled, on_image}
use Rattle.ls_commands.proofs.SampledLemmas.{sampled_of}
use Rattle.ls_commands.proofs.sampling.sample.Goals as goal

pub returns-in_err-image : goal.returns-in_err-image
returns-in_err-image c =
    let p = err_from_is_err_and c.from_residual.result c.from_residual.ensures.1 in
    let May = SampledOf c.args.cells c.args.seed c.args.drawing in
    rw (p.1, p.2) (not_compiled c.args.classes.now c.args.program.now May c.in_err-image.field-0.0
    c.in_err-image.ensures.refused)

pub returns : goal.returns
returns c =
    let i = c.in_ok-image.image in
    let compiles = c.in_ok-image.ensures.compiled in
    on_image c.args.classes.now c.args.program.now (SampledOf c.args.cells c.args.seed c.args.drawing) i
    c.sampled.result compiles c.in_ok-image.ensures.within
    (sampled_of i c.args.cells c.args.seed c.args.drawing c.args.classes.now c.args.program.now compiles
    c.schedules_read_back.ensures.printed
    c.seeds_replay.ensures c.sampled.result c.sampled.ensures)
