-- What the loop `done` of `glide` in src/silent.rt keeps.

use Rattle.std.proofs.Common.{◌≡◌, Some}
use Rattle.ls_machine_moves.specs.Frames.{keeping}
use Rattle.ls_machine_moves.specs.Gliding.{glided}
use Rattle.ls_machine_moves.proofs.silent.glide.Given as goal

abbrev pub invariant-loop-done : goal.invariant-loop-done
invariant-loop-done l = (glided l.instructions l.done l.initial.frame.frame ≡ Some l.frame.frame) ×
    (l.frame ≡ keeping l.initial.frame l.frame.frame)
