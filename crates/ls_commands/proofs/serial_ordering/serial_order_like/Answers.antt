-- Why `serial_order_like` in src/serial_ordering.rt keeps its contract.

use Rattle.std.proofs.lemmas.Result.{err_from_is_err_and}
use Rattle.std.specs.Prelude.{Result}
use Rattle.ls_faults.specs.declared.fault.ToolFault.{ToolFault}
use Rattle.ls_image.specs.Images.{checked_of}
use Rattle.ls_image.specs.declared.image.Image.{Image}
use Rattle.ls_report.specs.Events.{Text}
use Rattle.ls_types_checked.specs.CheckedFile.{elaborated_file}
use Rattle.ls_commands.specs.Compiled.{plain_program_of}
use Rattle.ls_commands.specs.Likeness.{AnswersLike}
use Rattle.ls_commands.specs.SerialOrdered.{OrdersOf}
use Rattle.ls_commands.proofs.Answering.{not_compiled, on_image}
use Rattle.ls_commands.proofs.serial_ordering.serial_order_like.Goals as goal

abbrev May : Text → Text → Text → Image → Result Text ToolFault → Type 0
May reference program history i =
    AnswersLike reference program i (λ s. OrdersOf (elaborated_file (checked_of s)) (plain_program_of s) history)

pub returns-in_err-image : goal.returns-in_err-image
returns-in_err-image c =
    let p = err_from_is_err_and c.from_residual.result c.from_residual.ensures.1 in
    rw (p.1, p.2) (not_compiled c.args.classes.now c.args.program.now
    (May c.args.reference.now c.args.program.now c.args.history.now) c.in_err-image.field-0.0
    c.in_err-image.ensures.refused)

pub returns : goal.returns
returns c =
    on_image c.args.classes.now c.args.program.now (May c.args.reference.now c.args.program.now c.args.history.now)
    c.in_ok-image.image c.ordered_by.result c.in_ok-image.ensures.compiled c.in_ok-image.ensures.within
    c.ordered_by.ensures
