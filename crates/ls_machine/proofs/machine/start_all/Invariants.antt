-- What the loop `start` of `start_all` in src/machine.rt keeps.

use Rattle.std.proofs.Common.{◌≡◌, take, map}
use Rattle.ls_machine_threads.specs.Memory.{started_kept}
use Rattle.ls_machine.proofs.machine.start_all.Given as goal

abbrev pub invariant-loop-start : goal.invariant-loop-start
invariant-loop-start l = l.threads.items ≡ map (started_kept l.locals_room l.operands_room)
    (take l.start-index l.starts)
