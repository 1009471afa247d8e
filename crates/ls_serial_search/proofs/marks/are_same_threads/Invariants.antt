-- What the loop `i` of `are_same_threads` in src/marks.rt keeps.

use Rattle.std.proofs.Common.{◌≡◌, drop}
use Rattle.std.specs.Prelude.{map}
use Rattle.ls_source.specs.SeenThread.{thread_of}
use Rattle.ls_serial_search.proofs.marks.are_same_threads.Given as goal

abbrev pub invariant-loop-i : goal.invariant-loop-i
invariant-loop-i l =
    map thread_of (drop l.i l.threads) ≡ map thread_of (drop l.i l.others) →
    map thread_of l.threads ≡ map thread_of l.others
