-- What the loop `thread` of `no_answers` in src/run.rt keeps.

use Rattle.std.proofs.Common.{◌≡◌, take, []}
use Rattle.std.specs.Prelude.{map}
use Rattle.ls_source.specs.SeenRun.{lists_of}
use Rattle.ls_source.proofs.run.no_answers.Given as goal

abbrev pub invariant-loop-thread : goal.invariant-loop-thread
invariant-loop-thread l = lists_of l.answers.items ≡ map (λ t. []) (take l._thread-index l.threads)
