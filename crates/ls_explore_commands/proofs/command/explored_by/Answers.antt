-- Why `explored_by` in src/command.rt keeps its clause `gives`.

use Rattle.std.proofs.Common.{subst, sym}
use Rattle.ls_checked.specs.PlainProgram.{plain_program}
use Rattle.ls_faults.specs.Given.{GivesText}
use Rattle.ls_faults.specs.declared.fault.ToolFault.{ToolFault}
use Rattle.ls_faults.proofs.Answering.{Failed, fails, wider}
use Rattle.ls_image.specs.declared.image.Image.{Image}
use Rattle.ls_specified.specs.Specified.{IsNoSpecification, Specifies}
use Rattle.ls_commands.specs.Likeness.{AnswersLike, NotSpecified, OnSpecification}
use Rattle.ls_explore_commands.specs.Likeness.{ExploredLike}
use Rattle.ls_explore_commands.proofs.command.explored_by.Goals as goal

pub returns-in-Ok-clause-gives : goal.returns-in-Ok-clause-gives
returns-in-Ok-clause-gives g c =
    let i = c.args.image.now in
    let s = c.in-Ok.specification in
    let is = subst (λ p. Specifies c.args.like.now c.args.program.now (plain_program p) s) c.program.ensures
    c.in-Ok.ensures.some in
    wider (ExploredLike s i c.args.exploring) (AnswersLike c.args.like.now c.args.program.now i
    (λ (s : Image). ExploredLike s i c.args.exploring)) c.explored_like.result
    (λ a h. OnSpecification s a is h) c.explored_like.ensures.gives

pub returns-in-Err-clause-gives : goal.returns-in-Err-clause-gives
returns-in-Err-clause-gives g c =
    let i = c.args.image.now in
    let f = c.in-Err.fault in
    let is = subst (λ p. IsNoSpecification c.args.like.now c.args.program.now (plain_program p) f) c.program.ensures
    c.in-Err.ensures.none in
    let May = AnswersLike c.args.like.now c.args.program.now i (λ (s : Image). ExploredLike s i c.args.exploring) in
    subst (λ (t : ToolFault). GivesText May (Failed t)) (sym c.from.ensures) (fails May _ (NotSpecified f is))
