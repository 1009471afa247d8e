-- Why `translate` in src/translating.rt keeps its contract.

use Rattle.std.proofs.Common.{ℕ}
use Rattle.std.proofs.lemmas.Result.{err_from_is_err_and}
use Rattle.std.specs.Prelude.{Result}
use Rattle.ls_image.specs.declared.image.Image.{Image}
use Rattle.ls_report.specs.Events.{Text}
use Rattle.ls_schedule.specs.Reading.{schedule_of}
use Rattle.ls_commands.specs.Compiled.{names_of_image}
use Rattle.ls_command_line.specs.declared.words.Side.{Side}
use Rattle.ls_faults.specs.declared.fault.ToolFault.{ToolFault}
use Rattle.ls_commands.specs.Translated.{Translated}
use Rattle.ls_commands.proofs.Answering.{not_compiled, on_image}
use Rattle.ls_commands.proofs.translating.translate.Goals as goal

abbrev May : Side → ℕ → Text → Image → Result Text ToolFault → Type 0
May to cells schedule i = Translated i to cells (schedule_of (names_of_image i) schedule)

pub returns-in_err-image : goal.returns-in_err-image
returns-in_err-image c =
    let p = err_from_is_err_and c.from_residual.result c.from_residual.ensures.1 in
    rw (p.1, p.2) (not_compiled c.args.classes.now c.args.program.now (May c.args.to c.args.cells c.args.schedule.now)
    c.in_err-image.field-0.0 c.in_err-image.ensures.refused)

pub returns : goal.returns
returns c =
    on_image c.args.classes.now c.args.program.now (May c.args.to c.args.cells c.args.schedule.now) c.in_ok-image.image
    c.translated.result
    c.in_ok-image.ensures.compiled c.in_ok-image.ensures.within c.translated.ensures
