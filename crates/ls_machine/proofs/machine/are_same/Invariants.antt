-- What the loop `i` of `are_same` in src/machine.rt keeps.

use Rattle.std.proofs.Common.{◌≡◌, map, take}
use Rattle.ls_machine.proofs.machine.are_same.Given as goal

abbrev pub invariant-loop-i : goal.invariant-loop-i
invariant-loop-i l = map (λ t. t.thread) (take l.i l.threads) ≡ map (λ t. t.thread) (take l.i l.others)
