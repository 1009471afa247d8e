-- What the loop `n` of `are_merged` in src/merging.rt keeps.

use Rattle.ls_automaton.proofs.Joined.{AreFirstMerged}
use Rattle.ls_automaton.proofs.merging.are_merged.Given as goal

abbrev pub invariant-loop-n : goal.invariant-loop-n
invariant-loop-n l = AreFirstMerged l.rows l.merged l.n
