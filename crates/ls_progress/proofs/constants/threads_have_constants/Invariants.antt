-- What the loop `thread` of `threads_have_constants` in src/constants.rt keeps.
use Rattle.std.proofs.Common.{drop, map}
use Rattle.ls_checked.specs.PlainProgram.{plain_thread}
use Rattle.ls_progress.specs.Constants.{ThreadsHaveConstants}
use Rattle.ls_progress.proofs.constants.threads_have_constants.Given as goal

abbrev pub invariant-loop-thread : goal.invariant-loop-thread
invariant-loop-thread l =
    ThreadsHaveConstants (map plain_thread (drop l.thread-index l.threads)) →
    ThreadsHaveConstants (map plain_thread l.threads)
