-- What the loop `i` of `clear` in src/frame.rt keeps.

use Rattle.std.proofs.Common.{◌≡◌, ◌+◌, ◌++◌, take, replicate, length}
use Rattle.ls_machine_moves.proofs.frame.clear.Given as goal

abbrev pub invariant-loop-i : goal.invariant-loop-i
invariant-loop-i l = record {
  cleared : take (l.from + l.i) l.locals ≡ take l.from l.initial.locals ++ replicate l.i 0;
  long : length l.locals ≡ length l.initial.locals;
}
