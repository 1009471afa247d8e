-- What the loop `thread` of `played_along` in src/playing.rt keeps.

use Rattle.std.proofs.Common.{take}
use Rattle.ls_checked.specs.Plain.{plain_file}
use Rattle.ls_checked.specs.PlainProgram.{plain_program}
use Rattle.ls_serial_search.proofs.Along.{StandsAt}
use Rattle.ls_serial_search.proofs.playing.played_along.Given as goal

abbrev pub invariant-loop-thread : goal.invariant-loop-thread
invariant-loop-thread l =
    StandsAt (plain_file l.file) (plain_program l.program) l.run (take l.thread-index l.steps)
