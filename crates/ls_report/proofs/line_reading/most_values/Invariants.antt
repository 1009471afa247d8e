-- What the loop `b` of `most_values` in src/line_reading.rt keeps.

use Rattle.std.proofs.Common.{◌≤◌}
use Rattle.ls_report.proofs.line_reading.most_values.Given as goal

abbrev pub invariant-loop-b : goal.invariant-loop-b
invariant-loop-b l = l.commas ≤ l.b-index
