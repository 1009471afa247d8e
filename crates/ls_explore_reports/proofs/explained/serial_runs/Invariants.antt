-- What the loop `at` of `serial_runs` in src/explained.rt keeps.

use Rattle.std.proofs.Common.{take}
use Rattle.ls_explore_reports.specs.Rows.{AreRunsOfRows}
use Rattle.ls_explore_reports.proofs.explained.serial_runs.Given as goal

abbrev pub invariant-loop-at : goal.invariant-loop-at
invariant-loop-at l = AreRunsOfRows (take l.at l.rows) l.runs
