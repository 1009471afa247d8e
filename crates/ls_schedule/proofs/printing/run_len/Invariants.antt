-- What the loop `step` of `run_len` in src/printing.rt keeps.

use Rattle.std.proofs.Common.{◌≡◌, ◌+◌, ◌==◌, drop}
use Rattle.std.specs.List.{prefix_len}
use Rattle.ls_schedule.proofs.printing.run_len.Given as goal

abbrev pub invariant-loop-step : goal.invariant-loop-step
invariant-loop-step l = record {
  count : l.len ≡ l.step-index;
  all : l.len + prefix_len (λ t. t == l.thread) (drop l.step-index l.steps) ≡ prefix_len (λ t. t == l.thread) l.steps;
}
