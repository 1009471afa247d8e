-- What the loop `i` of `are_same_outcomes` in src/merging.rt keeps.

use Rattle.ls_automaton.proofs.Lists.{AreFirstSame}
use Rattle.ls_automaton.proofs.merging.are_same_outcomes.Given as goal

abbrev pub invariant-loop-i : goal.invariant-loop-i
invariant-loop-i l = AreFirstSame l.row l.other l.i
