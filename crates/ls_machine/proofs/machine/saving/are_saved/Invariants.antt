-- What the loop `i` of `are_saved` in src/machine/saving.rt keeps.

use Rattle.std.proofs.Common.{◌≡◌, map, take}
use Rattle.ls_machine.proofs.machine.saving.are_saved.Given as goal

abbrev pub invariant-loop-i : goal.invariant-loop-i
invariant-loop-i l = map (λ t. t.thread) (take l.i l.threads) ≡ map (λ t. t.value) (take l.i l.saved)
