-- What the loop `thread` of `results_of` in src/results.rt keeps.

use Rattle.std.proofs.Common.{◌≡◌, ◌++◌, drop}
use Rattle.std.specs.Prelude.{map}
use Rattle.ls_checked.specs.PlainProgram.{plain_thread}
use Rattle.ls_specified.specs.Specified.{results_of}
use Rattle.ls_specified.proofs.results.results_of.Given as goal

-- the types so far, and those that are left
abbrev pub invariant-loop-thread : goal.invariant-loop-thread
invariant-loop-thread l =
    l.results.items ++ results_of (map plain_thread (drop l.thread-index l.threads)) ≡
    results_of (map plain_thread l.threads)
