-- What the loop `steps` of `table_of` in src/tabling.rt keeps, and why the loop ends.

use Rattle.std.proofs.Common.{◌≡◌, ◌-◌, ◌<◌, length, slice_get}
use Rattle.ls_automaton.specs.Held.{helds_of}
use Rattle.ls_source_judge.specs.Stepped.{AreSteps, pairs_in}
use Rattle.ls_source_judge.proofs.tabling.table_of.Given as goal

abbrev pub invariant-loop-steps : goal.invariant-loop-steps
invariant-loop-steps l = record {
  some : 0 < length l.known.items;
  steps : AreSteps l.rows l.known.items l.steps.items;
  first : pairs_in (slice_get l.known.items 0) ≡ helds_of l.fn.first.items;
}

abbrev pub decreases-loop-steps : goal.decreases-loop-steps
decreases-loop-steps l = 4096 - length l.steps.items
