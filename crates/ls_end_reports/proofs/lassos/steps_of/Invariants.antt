-- What the loop `round` of `steps_of` in src/lassos.rt keeps.
use Rattle.std.proofs.Common.{◌≡◌, ◌++◌}
use Rattle.ls_progress_laws.specs.Progress.{rounds}
use Rattle.ls_end_reports.proofs.lassos.steps_of.Given as goal

abbrev pub invariant-loop-round : goal.invariant-loop-round
invariant-loop-round l = l.steps.items ≡ l.lasso.way.items ++ rounds l._round l.lasso.cycle.items
