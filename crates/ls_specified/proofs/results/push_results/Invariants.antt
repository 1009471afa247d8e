-- What the loop `call` of `push_results` in src/results.rt keeps.

use Rattle.std.proofs.Common.{◌≡◌, ◌++◌, drop}
use Rattle.std.specs.Prelude.{map}
use Rattle.ls_checked.specs.PlainProgram.{plain_call}
use Rattle.ls_specified.specs.Specified.{call_results}
use Rattle.ls_specified.proofs.results.push_results.Given as goal

-- the types so far, and those that are left
abbrev pub invariant-loop-call : goal.invariant-loop-call
invariant-loop-call l =
    l.results.items ++ call_results (map plain_call (drop l.call-index l.calls)) ≡
    l.initial.results.items ++ call_results (map plain_call l.calls)
