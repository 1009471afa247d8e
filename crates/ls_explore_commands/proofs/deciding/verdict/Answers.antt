-- Why `verdict` in src/deciding.rt keeps its contract, and what `decided_like` requires.

use Rattle.std.proofs.Common.{ℕ}
use Rattle.std.proofs.lemmas.Result.{err_from_is_err_and}
use Rattle.std.specs.Prelude.{Result}
use Rattle.ls_checked.specs.PlainProgram.{plain_program}
use Rattle.ls_image.specs.Images.{checked_of, program_of_image}
use Rattle.ls_image.specs.declared.image.Image.{Image}
use Rattle.ls_report.specs.Events.{Text}
use Rattle.ls_faults.specs.declared.fault.ToolFault.{ToolFault}
use Rattle.ls_translation.specs.Texts.{file_of, program_of}
use Rattle.ls_types_checked.specs.CheckedFile.{elaborated_file}
use Rattle.ls_commands.proofs.Answering.{not_compiled, on_image}
use Rattle.ls_explore_commands.specs.Verdicts.{Decided}
use Rattle.ls_explore_commands.proofs.deciding.verdict.Goals as goal

abbrev May : Text → ℕ → Image → Result Text ToolFault → Type 0
May classes states i = Decided classes (file_of i) (program_of i) i states

pub returns-in_err-image : goal.returns-in_err-image
returns-in_err-image c =
    let p = err_from_is_err_and c.from_residual.result c.from_residual.ensures.1 in
    rw (p.1, p.2) (not_compiled c.args.classes.now c.args.program.now (May c.args.classes.now c.args.states)
    c.in_err-image.field-0.0
    c.in_err-image.ensures.refused)

pub returns : goal.returns
returns c =
    on_image c.args.classes.now c.args.program.now (May c.args.classes.now c.args.states) c.in_ok-image.image
    c.decided_like.result
    c.in_ok-image.ensures.compiled c.in_ok-image.ensures.within c.decided_like.ensures

pub decided_like-requires-clause-reads : goal.decided_like-requires-clause-reads
decided_like-requires-clause-reads c =
    c.verdicts_read_back.ensures c.args.classes.now c.args.program.now c.in_ok-image.image
    c.in_ok-image.ensures.compiled

pub decided_like-requires-clause-named : goal.decided_like-requires-clause-named
decided_like-requires-clause-named c =
    let i = c.in_ok-image.image in
    let is = c.in_ok-image.ensures.compiled in
    c.source_is_readable.ensures is.file (elaborated_file (checked_of i)) c.args.program.now
    (plain_program (program_of_image i)) is.elaborates is.reads
