-- What the loop `i` of `Interner::all_threads` in src/machine/saving.rt keeps.

use Rattle.std.proofs.Common.{◌≡◌, map, take}
use Rattle.ls_machine.proofs.machine.saving.Interner.all_threads.Given as goal

abbrev pub invariant-loop-i : goal.invariant-loop-i
invariant-loop-i l = map (λ t. t.value) l.saved.items ≡ map (λ t. t.thread) (take l.i l.threads)
