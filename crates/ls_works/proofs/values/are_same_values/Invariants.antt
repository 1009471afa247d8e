-- What the loop `i` of `are_same_values` in src/values.rt keeps.

use Rattle.std.proofs.Common.{◌≡◌, take}
use Rattle.ls_works.proofs.values.are_same_values.Given as goal

abbrev pub invariant-loop-i : goal.invariant-loop-i
invariant-loop-i l = take l.i l.values ≡ take l.i l.others
