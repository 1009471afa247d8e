-- What the loop `i` of `answer_the_same` in src/thread/saving.rt keeps.

use Rattle.std.proofs.Common.{◌≡◌, take}
use Rattle.ls_machine_threads.proofs.thread.saving.answer_the_same.Given as goal

abbrev pub invariant-loop-i : goal.invariant-loop-i
invariant-loop-i l = take l.i l.calls ≡ take l.i l.others
