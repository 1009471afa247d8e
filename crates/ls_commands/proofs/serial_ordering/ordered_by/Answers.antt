-- Why `ordered_by` in src/serial_ordering.rt keeps its contract.

use Rattle.std.proofs.Common.{subst}
use Rattle.std.proofs.lemmas.Result.{err_from_is_err_and}
use Rattle.std.specs.Prelude.{Result}
use Rattle.ls_checked.specs.PlainProgram.{plain_program}
use Rattle.ls_faults.specs.Given.{GivesText}
use Rattle.ls_faults.specs.declared.fault.ToolFault.{ToolFault}
use Rattle.ls_image.specs.Images.{checked_of}
use Rattle.ls_image.specs.declared.image.Image.{Image}
use Rattle.ls_report.specs.Events.{Text}
use Rattle.ls_types_checked.specs.CheckedFile.{elaborated_file}
use Rattle.ls_commands.specs.Compiled.{plain_program_of}
use Rattle.ls_commands.specs.SerialOrdered.{OrdersOf}
use Rattle.ls_commands.proofs.LikenessLemmas.{not_specified, on_specification}
use Rattle.ls_commands.proofs.serial_ordering.ordered_by.Goals as goal

abbrev May : Text → Image → Result Text ToolFault → Type 0
May history s = OrdersOf (elaborated_file (checked_of s)) (plain_program_of s) history

pub returns-in_err-like : goal.returns-in_err-like
returns-in_err-like c =
    let p = err_from_is_err_and c.from_residual.result c.from_residual.ensures.1 in
    rw (p.1, p.2) (not_specified c.args.reference.now c.args.program.now c.args.image.now (May c.args.history.now)
    c.program.result.now c.program.ensures c.in_err-like.field-0.0 c.in_err-like.ensures.none)

pub returns : goal.returns
returns c =
    let s = c.in_ok-like.like in
    let h = c.args.history.now in
    let told = subst
    (λ k. GivesText (OrdersOf (elaborated_file k) (plain_program c.program-2.result.now) h) c.ordered.result)
    c.checked.ensures c.ordered.ensures in
    on_specification c.args.reference.now c.args.program.now c.args.image.now (May h) c.program.result.now
    c.program.ensures s c.ordered.result c.in_ok-like.ensures.some
    (subst (λ q. GivesText (OrdersOf (elaborated_file (checked_of s)) (plain_program q) h) c.ordered.result)
    c.program-2.ensures told)
