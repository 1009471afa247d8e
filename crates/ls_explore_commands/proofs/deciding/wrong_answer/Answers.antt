-- Why `wrong_answer` in src/deciding.rt keeps its contract.

use Rattle.std.proofs.Common.{subst}
use Rattle.std.specs.Prelude.{IfNone, IfSome}
use Rattle.ls_source_judge.specs.Judged.{IsUnjudgedRun, IsUnlikeRun}
use Rattle.ls_specification.specs.Specification.{spec_file, spec_program}
use Rattle.ls_translation.specs.Texts.{file_of, program_of}
use Rattle.ls_explore_commands.proofs.deciding.wrong_answer.Goals as goal

pub returns-in-Some : goal.returns-in-Some
returns-in-Some c = λ classes good extent bad unjudged free stuck.
    let i = c.args.image.now in
    let sfile = spec_file c.args.specification in
    let sprogram = spec_program c.args.specification in
    c.doubted_answer.ensures classes sfile sprogram good extent
    (subst (λ o. IfSome o (λ d. IsUnjudgedRun sfile sprogram (file_of i) (program_of i) d c.args.steps.now))
    c.in-Some.is
    unjudged) free stuck

pub returns-in-None : goal.returns-in-None
returns-in-None c = λ classes good extent bad unjudged free stuck.
    let i = c.args.image.now in
    c.bad_answer.ensures classes good extent
    (subst (λ o. IfNone o (IsUnlikeRun (spec_file c.args.specification) (spec_program c.args.specification)
    (file_of i) (program_of i) c.args.steps.now)) c.in-None.is bad)
