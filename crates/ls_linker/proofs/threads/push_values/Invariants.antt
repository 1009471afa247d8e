-- What the loop `value` of `push_values` in src/threads.rt keeps.

use Rattle.std.proofs.Common.{◌≡◌, ◌++◌, take}
use Rattle.ls_linker.specs.Threads.{pushes}
use Rattle.ls_linker.proofs.threads.push_values.Given as goal

abbrev pub invariant-loop-value : goal.invariant-loop-value
invariant-loop-value l = l.code.items ≡ l.fn.code.items ++ pushes (take l.value-index l.values)
