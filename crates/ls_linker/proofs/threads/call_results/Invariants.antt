-- What the loop `call` of `call_results` in src/threads.rt keeps.

use Rattle.std.proofs.Common.{◌≡◌, map, take}
use Rattle.ls_checked.specs.PlainProgram.{plain_call}
use Rattle.ls_preservation.specs.Threads.{call_result}
use Rattle.ls_linker.proofs.threads.call_results.Given as goal

abbrev pub invariant-loop-call : goal.invariant-loop-call
invariant-loop-call l = l.results.items ≡ map call_result (map plain_call (take l.call-index l.calls))
