-- What the loop `i` of `uncovered` in src/pairs.rt keeps.

use Rattle.ls_automaton.proofs.Dropped.{AreLeft}
use Rattle.ls_automaton.proofs.pairs.uncovered.Given as goal

abbrev pub invariant-loop-i : goal.invariant-loop-i
invariant-loop-i l = AreLeft l.rows l.pairs l.left.items l.i
