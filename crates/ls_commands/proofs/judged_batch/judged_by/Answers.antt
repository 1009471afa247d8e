-- Why `judged_by` in src/judged_batch.rt keeps its contract.

use Rattle.std.proofs.Common.{ℕ}
use Rattle.std.proofs.lemmas.Result.{err_from_is_err_and}
use Rattle.std.specs.Prelude.{Result}
use Rattle.ls_image.specs.declared.image.Image.{Image}
use Rattle.ls_report.specs.Events.{Text}
use Rattle.ls_commands.specs.declared.batching.Sampling.{Sampling}
use Rattle.ls_faults.specs.declared.fault.ToolFault.{ToolFault}
use Rattle.ls_commands.specs.Likeness.{JudgedLike}
use Rattle.ls_commands.proofs.LikenessLemmas.{not_specified, on_specification}
use Rattle.ls_commands.proofs.judged_batch.judged_by.Goals as goal

abbrev May : Image → ℕ → Sampling → Image → Result Text ToolFault → Type 0
May i cells sampling s = JudgedLike s i cells sampling

pub returns-in_err-like : goal.returns-in_err-like
returns-in_err-like g c =
    let p = err_from_is_err_and c.from_residual.result c.from_residual.ensures.1 in
    rw (p.1, p.2) (not_specified c.args.texts.reference.now c.args.texts.program.now c.args.image.now
    (May c.args.image.now c.args.cells c.args.sampling) c.program.result.now c.program.ensures
    c.in_err-like.field-0.0 c.in_err-like.ensures.none)

pub returns : goal.returns
returns g c =
    on_specification c.args.texts.reference.now c.args.texts.program.now c.args.image.now
    (May c.args.image.now c.args.cells c.args.sampling) c.program.result.now c.program.ensures c.in_ok-like.like
    c.judged_like.result c.in_ok-like.ensures.some c.judged_like.ensures
