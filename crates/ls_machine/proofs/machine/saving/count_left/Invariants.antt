-- What the loop `thread` of `count_left` in src/machine/saving.rt keeps.

use Rattle.std.proofs.Common.{◌≡◌, take}
use Rattle.std.specs.List.{sum_by}
use Rattle.ls_machine_threads.specs.Memory.{events_left}
use Rattle.ls_machine.proofs.machine.saving.count_left.Given as goal

abbrev pub invariant-loop-thread : goal.invariant-loop-thread
invariant-loop-thread l = l.count ≡ sum_by (λ t. events_left t.thread) (take l.thread-index l.threads)
