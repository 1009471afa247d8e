-- What the loop `i` of `push_exchanged` in src/doubles.rt keeps.

use Rattle.std.proofs.Common.{◌≡◌, ◌++◌, [], drop}
use Rattle.ls_families.specs.Doubles.{exchanged_calls}
use Rattle.ls_families.proofs.doubles.push_exchanged.Given as goal

abbrev pub invariant-loop-i : goal.invariant-loop-i
invariant-loop-i l =
    l.out.items ++ exchanged_calls l.length l.before (drop l.i l.lengths) l.left ≡
    l.initial.out.items ++ exchanged_calls 0 [] l.lengths l.calls
