-- Why `endings` in src/ending.rt keeps its contract.

use Rattle.std.proofs.Common.{ℕ, Bool}
use Rattle.std.proofs.lemmas.Result.{err_from_is_err_and}
use Rattle.std.specs.Prelude.{Result}
use Rattle.ls_image.specs.declared.image.Image.{Image}
use Rattle.ls_report.specs.Events.{Text}
use Rattle.ls_faults.specs.declared.fault.ToolFault.{ToolFault}
use Rattle.ls_commands.proofs.Answering.{not_compiled, on_image}
use Rattle.ls_explore_commands.specs.Endings.{Ended}
use Rattle.ls_explore_commands.proofs.ending.endings.Goals as goal

abbrev May : Bool → ℕ → Image → Result Text ToolFault → Type 0
May again states i = Ended i again states

pub returns-in_err-image : goal.returns-in_err-image
returns-in_err-image c =
    let p = err_from_is_err_and c.from_residual.result c.from_residual.ensures.1 in
    rw (p.1, p.2) (not_compiled c.args.classes.now c.args.program.now (May c.args.again c.args.states)
    c.in_err-image.field-0.0 c.in_err-image.ensures.refused)

pub returns : goal.returns
returns c =
    on_image c.args.classes.now c.args.program.now (May c.args.again c.args.states) c.in_ok-image.image
    c.ended.result c.in_ok-image.ensures.compiled c.in_ok-image.ensures.within c.ended.ensures
