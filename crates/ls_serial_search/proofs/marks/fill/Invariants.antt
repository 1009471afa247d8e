-- What the loop `thread` of `fill` in src/marks.rt keeps.

use Rattle.std.proofs.Common.{◌≡◌, take}
use Rattle.std.specs.Prelude.{map}
use Rattle.ls_source.specs.SeenThread.{thread_of}
use Rattle.ls_serial_search.proofs.marks.fill.Given as goal

abbrev pub invariant-loop-thread : goal.invariant-loop-thread
invariant-loop-thread l = map thread_of l.copies.items ≡ map thread_of (take l.thread-index l.threads)
