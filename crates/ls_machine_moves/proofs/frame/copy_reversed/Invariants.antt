-- What the loop `i` of `copy_reversed` in src/frame.rt keeps.

use Rattle.std.proofs.Common.{◌≡◌, take, reverse, length}
use Rattle.ls_machine_moves.proofs.frame.copy_reversed.Given as goal

abbrev pub invariant-loop-i : goal.invariant-loop-i
invariant-loop-i l = record {
  copied : take l.i l.locals ≡ take l.i (reverse (take l.count l.operands));
  long : length l.locals ≡ length l.initial.locals;
}
