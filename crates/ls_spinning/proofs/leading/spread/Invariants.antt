-- What the loop `after` of `spread` in src/leading.rt keeps.

use Rattle.std.proofs.Common.{Bool, List}
use Rattle.ls_spinning.specs.Heard.{AreHeard}
use Rattle.ls_spinning.proofs.leading.spread.Given as goal

abbrev pub invariant-loop-after : goal.invariant-loop-after
invariant-loop-after l =
    (loud : List Bool) → AreHeard loud l.edges l.fn.marks.items → AreHeard loud l.edges l.marks.items
