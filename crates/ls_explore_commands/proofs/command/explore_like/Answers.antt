-- Why `explore_like` in src/command.rt keeps its clause `gives`.

use Rattle.std.proofs.lemmas.Result.{err_from_is_err_and}
use Rattle.std.specs.Prelude.{Result}
use Rattle.ls_image.specs.declared.image.Image.{Image}
use Rattle.ls_report.specs.Events.{Text}
use Rattle.ls_faults.specs.declared.fault.ToolFault.{ToolFault}
use Rattle.ls_commands.proofs.Answering.{not_compiled, on_image}
use Rattle.ls_explore_reports.specs.declared.printing.Exploring.{Exploring}
use Rattle.ls_commands.specs.Likeness.{AnswersLike}
use Rattle.ls_explore_commands.specs.Likeness.{ExploredLike}
use Rattle.ls_explore_commands.proofs.command.explore_like.Goals as goal

abbrev May : Exploring → Text → Text → Image → Result Text ToolFault → Type 0
May e like program i = AnswersLike like program i (λ s. ExploredLike s i e)

pub returns-in_err-image-clause-gives : goal.returns-in_err-image-clause-gives
returns-in_err-image-clause-gives g c =
    let p = err_from_is_err_and c.from_residual.result c.from_residual.ensures.1 in
    rw (p.1, p.2) (not_compiled c.args.classes.now c.args.program.now
    (May c.args.exploring c.args.like.now c.args.program.now) c.in_err-image.field-0.0 c.in_err-image.ensures.refused)

pub returns-clause-gives : goal.returns-clause-gives
returns-clause-gives g c =
    on_image c.args.classes.now c.args.program.now (May c.args.exploring c.args.like.now c.args.program.now)
    c.in_ok-image.image c.explored_by.result c.in_ok-image.ensures.compiled c.in_ok-image.ensures.within
    c.explored_by.ensures.gives
