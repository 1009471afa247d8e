-- What the loop `taken` of `settle` in src/runs.rt keeps.

use Rattle.std.proofs.Common.{◌≡◌, ◌+◌, ◌-◌}
use Rattle.ls_batch.specs.Samples.{settled, settling}
use Rattle.ls_batch.proofs.runs.settle.Given as goal

abbrev pub invariant-loop-taken : goal.invariant-loop-taken
invariant-loop-taken l = record {
  machine : settled (l.most - l.taken) l.machine ≡ settled l.most l.initial.machine;
  steps : l.taken + settling (l.most - l.taken) l.machine ≡ settling l.most l.initial.machine;
}
