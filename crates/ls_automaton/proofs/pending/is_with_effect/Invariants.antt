-- What the loop `i` of `is_with_effect` in src/pending.rt keeps.

use Rattle.ls_automaton.specs.Held.{taken}
use Rattle.ls_automaton.proofs.Lists.{AreFirstSame}
use Rattle.ls_automaton.proofs.pending.is_with_effect.Given as goal

abbrev pub invariant-loop-i : goal.invariant-loop-i
invariant-loop-i l = AreFirstSame (taken l.end l.pending) l.others l.i
