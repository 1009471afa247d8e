-- What the loop `i` of `saved_frames` in src/thread/saving.rt keeps.

use Rattle.std.proofs.Common.{◌≡◌, map, take}
use Rattle.ls_machine_threads.proofs.thread.saving.saved_frames.Given as goal

abbrev pub invariant-loop-i : goal.invariant-loop-i
invariant-loop-i l = map (λ k. k.frame) l.saved.items ≡ map (λ k. k.frame) (take l.i l.frames)
