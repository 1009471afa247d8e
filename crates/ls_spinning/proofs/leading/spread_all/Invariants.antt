-- What `spread_all` in src/leading.rt keeps.

use Rattle.std.proofs.Common.{Bool, List}
use Rattle.ls_spinning.specs.Heard.{AreHeard}
use Rattle.ls_spinning.proofs.leading.spread_all.Given as goal

abbrev pub invariant-loop : goal.invariant-loop
invariant-loop l =
    (loud : List Bool) → AreHeard loud l.edges l.fn.marks.items → AreHeard loud l.edges l.marks.items
