-- What the loop `step` of `push_steps` in src/lassos.rt keeps.
use Rattle.std.proofs.Common.{◌≡◌, ◌++◌, take}
use Rattle.ls_end_reports.proofs.lassos.push_steps.Given as goal

abbrev pub invariant-loop-step : goal.invariant-loop-step
invariant-loop-step l = l.out.items ≡ l.fn.out.items ++ take l.step-index l.steps
