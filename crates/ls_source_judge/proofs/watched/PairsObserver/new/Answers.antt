-- Why `PairsObserver::new` in src/observing.rt keeps its contract, and its type's.

use Rattle.std.proofs.Common.{subst}
use Rattle.ls_source_judge.specs.Stepped.{AreSteps}
use Rattle.ls_source_judge.proofs.watched.PairsObserver.new.Goals as goal

pub invariant_of-result : goal.invariant_of-result
invariant_of-result c = record {
  right = subst (λ es. AreSteps es c.in_ok-table.table.known.items c.in_ok-table.table.steps.items)
      c.as_slice.ensures.value c.in_ok-table.ensures.steps;
}
