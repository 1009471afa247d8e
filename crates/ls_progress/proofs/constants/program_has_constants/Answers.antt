-- Why `program_has_constants` in src/constants.rt keeps its contract.
use Rattle.std.proofs.Common.{map, subst}
use Rattle.ls_checked.specs.PlainProgram.{plain_program, plain_thread}
use Rattle.ls_progress.specs.Constants.{ThreadsHaveConstants}
use Rattle.ls_progress.proofs.ThreadConstants.{program_constants}
use Rattle.ls_progress.proofs.constants.program_has_constants.Goals as goal

pub returns : goal.returns
returns c = λ yes.
    program_constants (plain_program c.args.program.now)
    (subst (λ ts. ThreadsHaveConstants (map plain_thread ts)) c.deref.ensures.value
    (c.threads_have_constants.ensures yes))
