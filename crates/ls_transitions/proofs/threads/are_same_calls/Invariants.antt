-- What the loop `i` of `are_same_calls` in src/threads.rt keeps.

use Rattle.std.proofs.Common.{◌≡◌, drop}
use Rattle.std.specs.Prelude.{map}
use Rattle.ls_checked.specs.PlainProgram.{plain_call}
use Rattle.ls_transitions.proofs.threads.are_same_calls.Given as goal

abbrev pub invariant-loop-i : goal.invariant-loop-i
invariant-loop-i l =
    map plain_call (drop l.i l.calls) ≡ map plain_call (drop l.i l.others) →
    map plain_call l.calls ≡ map plain_call l.others
