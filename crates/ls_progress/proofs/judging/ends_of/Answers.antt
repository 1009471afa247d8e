-- Why `ends_of` in src/judging.rt keeps its clause `once`.
use Rattle.std.proofs.Common.{subst}
use Rattle.ls_progress.specs.Ends.{AreEndsFrom}
use Rattle.ls_progress.specs.Judged.{file_in, program_in, threads_in}
use Rattle.ls_progress.specs.Roots.{root_of}
use Rattle.ls_progress.proofs.Weaker.{ends_of_program}
use Rattle.ls_progress.proofs.judging.ends_of.Goals as goal

pub returns-clause-once : goal.returns-clause-once
returns-clause-once c = λ off.
    let s = c.args.scope in
    ends_of_program (file_in s) (program_in s) c.in_ok-calls.calls.items
    (subst (λ b. AreEndsFrom (file_in s) (threads_in s) (root_of b (file_in s) (program_in s))
    c.in_ok-calls.calls.items) off c.in_ok-calls.ensures.ends)
