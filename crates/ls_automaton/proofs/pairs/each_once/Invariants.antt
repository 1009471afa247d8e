-- What the loop `pair` of `each_once` in src/pairs.rt keeps, and why the loop ends.

use Rattle.std.proofs.Common.{length}
use Rattle.ls_automaton.proofs.Ending.{AreSplit}
use Rattle.ls_automaton.proofs.pairs.each_once.Given as goal

abbrev pub invariant-loop-pair : goal.invariant-loop-pair
invariant-loop-pair l = AreSplit l.fn.pairs.items l.rest.items l.once.items

abbrev pub decreases-loop-pair : goal.decreases-loop-pair
decreases-loop-pair l = length l.rest.items
