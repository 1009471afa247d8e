-- What the loop `i` of `are_same` in src/thread.rt keeps.

use Rattle.std.proofs.Common.{◌≡◌, map, take}
use Rattle.ls_machine_threads.proofs.thread.are_same.Given as goal

abbrev pub invariant-loop-i : goal.invariant-loop-i
invariant-loop-i l = map (λ k. k.frame) (take l.i l.frames) ≡ map (λ k. k.frame) (take l.i l.others)
