-- Why `is_unexcused` in src/excusing.rt keeps its contract.

use Rattle.std.proofs.Common.{◌∙◌, ap}
use Rattle.ls_checked.specs.CheckedTree.{File}
use Rattle.ls_checked.specs.CheckedProgram.{Program}
use Rattle.ls_checked.specs.Plain.{plain_file}
use Rattle.ls_checked.specs.PlainProgram.{plain_program}
use Rattle.ls_meaning.specs.Runs.{source_history}
use Rattle.ls_endless_calls.proofs.Excused.{unexcused_call}
use Rattle.ls_endless_calls.proofs.excusing.is_unexcused.Goals as goal

pub returns : goal.returns
returns c = λ so sfile sprogram tell.
    let file : File = plain_file c.args.file.now in
    let program : Program = plain_program c.args.program.now in
    unexcused_call sfile sprogram _ _ _ _ c.runs_decide.ensures.all c.deref.ensures.value
    (c.as_slice.ensures.value ∙ c.in_ok-history.ensures ∙ ap (source_history file program) c.steps.ensures)
    (tell c.if-not-endless.false) (c.has_unexcused.ensures so)
