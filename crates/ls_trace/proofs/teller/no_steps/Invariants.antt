-- What the loop `thread` of `no_steps` in src/teller.rt keeps.

use Rattle.std.proofs.Common.{◌≡◌, take}
use Rattle.std.specs.Prelude.{map}
use Rattle.ls_trace.proofs.teller.no_steps.Given as goal

abbrev pub invariant-loop-thread : goal.invariant-loop-thread
invariant-loop-thread l = l.calls.items ≡ map (λ t. 0) (take l._thread-index l.threads)
