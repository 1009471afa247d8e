-- Why `doubted_answer` in src/deciding.rt keeps its contract.

use Rattle.std.proofs.Common.{subst, sym}
use Rattle.std.specs.Prelude.{IfNone, IfSome}
use Rattle.ls_search.specs.Verdicts.{NeverStuck}
use Rattle.ls_source_judge.specs.Judged.{IsStuckRun}
use Rattle.ls_translation.specs.Texts.{file_of, program_of}
use Rattle.ls_explore_commands.proofs.deciding.doubted_answer.Goals as goal

pub returns-in-Some : goal.returns-in-Some
returns-in-Some c = λ classes sfile sprogram good extent doubt free stuck.
    let i = c.args.image.now in
    c.stuck_and_doubtful_answer.ensures classes sfile sprogram good extent
    (subst (λ s. IsStuckRun (file_of i) (program_of i) s) (sym c.as_slice.ensures.value)
    (subst (λ o. IfSome o (λ s. IsStuckRun (file_of i) (program_of i) s.items)) c.in-Some.is stuck)) doubt

pub returns-in-None : goal.returns-in-None
returns-in-None c = λ classes sfile sprogram good extent doubt free stuck.
    let i = c.args.image.now in
    c.doubtful_answer.ensures classes sfile sprogram good extent doubt
    (λ complete. subst (λ o. IfNone o (NeverStuck (file_of i) (program_of i))) c.in-None.is (free complete))
