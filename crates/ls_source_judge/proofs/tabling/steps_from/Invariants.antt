-- What the loop `i` of `steps_from` in src/tabling.rt keeps.

use Rattle.ls_source_judge.specs.Stepped.{AreStepsOf, Grows}
use Rattle.ls_source_judge.proofs.tabling.steps_from.Given as goal

abbrev pub invariant-loop-i : goal.invariant-loop-i
invariant-loop-i l = record {
  grows : Grows l.initial.known.items l.known.items;
  steps : AreStepsOf l.rows l.known.items l.at l.steps.items;
}
