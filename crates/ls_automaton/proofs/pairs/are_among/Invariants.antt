-- What the loop `i` of `are_among` in src/pairs.rt keeps.

use Rattle.ls_automaton.proofs.Ending.{AreFirstAmong}
use Rattle.ls_automaton.proofs.pairs.are_among.Given as goal

abbrev pub invariant-loop-i : goal.invariant-loop-i
invariant-loop-i l = AreFirstAmong l.pairs l.others l.i
