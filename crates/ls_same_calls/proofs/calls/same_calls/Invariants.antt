-- What the loop `i` of `same_calls` in src/calls.rt keeps.

use Rattle.std.proofs.Common.{◌≡◌, map, take}
use Rattle.ls_checked.specs.PlainProgram.{plain_call}
use Rattle.ls_same_calls.proofs.calls.same_calls.Given as goal

abbrev pub invariant-loop-i : goal.invariant-loop-i
invariant-loop-i l = take l.i (map plain_call l.first) ≡ take l.i (map plain_call l.second)
