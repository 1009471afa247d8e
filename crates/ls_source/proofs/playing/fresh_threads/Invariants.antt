-- What the loop `program` of `fresh_threads` in src/playing.rt keeps.

use Rattle.std.proofs.Common.{◌≡◌, take}
use Rattle.std.specs.Prelude.{map}
use Rattle.ls_checked.specs.PlainProgram.{plain_call}
use Rattle.ls_source.specs.Calls.{Starts, begun}
use Rattle.ls_source.specs.SeenThread.{thread_of}
use Rattle.ls_source.proofs.playing.fresh_threads.Given as goal

abbrev pub invariant-loop-program : goal.invariant-loop-program
invariant-loop-program l = map thread_of l.threads.items ≡ map
    (λ t. begun (record { number = 0; left = map plain_call t.calls.items; phase = Starts }))
    (take l.program-index l.programs)
