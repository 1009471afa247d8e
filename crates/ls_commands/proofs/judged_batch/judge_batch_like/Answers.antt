-- Why `judge_batch_like` in src/judged_batch.rt keeps its contract and what `judged_by` requires.

use Rattle.std.proofs.Common.{ℕ}
use Rattle.std.proofs.lemmas.Result.{err_from_is_err_and}
use Rattle.std.specs.Prelude.{Result}
use Rattle.ls_image.specs.declared.image.Image.{Image}
use Rattle.ls_report.specs.Events.{Text}
use Rattle.ls_commands.specs.declared.batching.Sampling.{Sampling}
use Rattle.ls_faults.specs.declared.fault.ToolFault.{ToolFault}
use Rattle.ls_commands.specs.Likeness.{AnswersLike, JudgedLike}
use Rattle.ls_commands.proofs.Answering.{not_compiled, on_image}
use Rattle.ls_commands.proofs.judged_batch.judge_batch_like.Goals as goal

abbrev May : Text → Text → ℕ → Sampling → Image → Result Text ToolFault → Type 0
May reference program cells sampling i = AnswersLike reference program i (λ s. JudgedLike s i cells sampling)

pub returns-in_err-image : goal.returns-in_err-image
returns-in_err-image g c =
    let p = err_from_is_err_and c.from_residual.result c.from_residual.ensures.1 in
    rw (p.1, p.2) (not_compiled c.args.texts.classes.now c.args.texts.program.now
    (May c.args.texts.reference.now c.args.texts.program.now c.args.cells c.args.sampling) c.in_err-image.field-0.0
    c.in_err-image.ensures.refused)

pub judged_by-requires-clause-readable : goal.judged_by-requires-clause-readable
judged_by-requires-clause-readable g c = λ lifetimes outlives. c.compiled_is_readable.ensures
    c.args.texts.classes.now c.args.texts.program.now c.in_ok-image.image c.in_ok-image.ensures.compiled

pub returns : goal.returns
returns g c =
    on_image c.args.texts.classes.now c.args.texts.program.now
    (May c.args.texts.reference.now c.args.texts.program.now c.args.cells c.args.sampling) c.in_ok-image.image
    c.judged_by.result c.in_ok-image.ensures.compiled c.in_ok-image.ensures.within c.judged_by.ensures
