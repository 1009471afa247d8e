-- Why `decided_by` in src/deciding.rt keeps its contract.

use Rattle.std.proofs.Common.{subst, sym}
use Rattle.ls_checked.specs.PlainProgram.{plain_program}
use Rattle.ls_faults.specs.Given.{GivesText}
use Rattle.ls_faults.specs.declared.fault.ToolFault.{ToolFault}
use Rattle.ls_faults.proofs.Answering.{Failed, fails, wider}
use Rattle.ls_image.specs.declared.image.Image.{Image}
use Rattle.ls_specified.specs.Specified.{IsNoSpecification, Specifies}
use Rattle.ls_translation.specs.Texts.{file_of, program_of}
use Rattle.ls_commands.specs.Likeness.{AnswersLike, NotSpecified, OnSpecification}
use Rattle.ls_explore_commands.specs.Verdicts.{Decided}
use Rattle.ls_explore_commands.proofs.deciding.decided_by.Goals as goal

pub returns-in-Ok : goal.returns-in-Ok
returns-in-Ok c =
    let i = c.args.image.now in
    let s = c.in-Ok.specification in
    let is = subst (λ p. Specifies c.args.like.now c.args.program.now (plain_program p) s) c.program.ensures
    c.in-Ok.ensures.some in
    wider (Decided c.args.classes.now (file_of s) (program_of s) i c.args.states) (AnswersLike c.args.like.now
    c.args.program.now i
    (λ (s : Image). Decided c.args.classes.now (file_of s) (program_of s) i c.args.states)) c.decided_like.result
    (λ a h. OnSpecification s a is h) c.decided_like.ensures

pub returns-in-Err : goal.returns-in-Err
returns-in-Err c =
    let i = c.args.image.now in
    let f = c.in-Err.fault in
    let is = subst (λ p. IsNoSpecification c.args.like.now c.args.program.now (plain_program p) f) c.program.ensures
    c.in-Err.ensures.none in
    let May = AnswersLike c.args.like.now c.args.program.now i
    (λ (s : Image). Decided c.args.classes.now (file_of s) (program_of s) i c.args.states) in
    subst (λ (t : ToolFault). GivesText May (Failed t)) (sym c.from.ensures) (fails May _ (NotSpecified f is))
