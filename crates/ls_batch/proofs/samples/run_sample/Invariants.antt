-- What the loop `taken` of `run_sample` in src/samples.rt keeps.

use Rattle.std.proofs.Common.{◌≡◌, ◌≤◌, ◌-◌}
use Rattle.ls_code.specs.Machine.{machine_run}
use Rattle.ls_batch.specs.Samples.{draws}
use Rattle.ls_batch.proofs.samples.run_sample.Given as goal

abbrev pub invariant-loop-taken : goal.invariant-loop-taken
invariant-loop-taken l = record {
  run : machine_run l.machine (draws l.threads l.drawing.switch l.last (l.drawing.steps - l.taken) l.rng) ≡
      machine_run l.initial.machine (draws l.threads l.drawing.switch 0 l.drawing.steps l.seed);
  there : l.last ≤ l.threads;
}
