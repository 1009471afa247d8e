-- What the loop `i` of `are_alike` in src/merging.rt keeps.

use Rattle.ls_automaton.proofs.Joined.{AreFirstAlike}
use Rattle.ls_automaton.proofs.merging.are_alike.Given as goal

abbrev pub invariant-loop-i : goal.invariant-loop-i
invariant-loop-i l = AreFirstAlike l.rows l.row l.other l.i
