-- What the loop `reader` of `all_types` in src/reading.rt keeps, and why the loop ends.

use Rattle.std.proofs.Common.{◌≤◌}
use Rattle.ls_java_parser.proofs.reading.all_types.Given as goal

abbrev pub invariant-loop-reader : goal.invariant-loop-reader
invariant-loop-reader l = l.reader.left ≤ l.initial.reader.left

abbrev pub decreases-loop-reader : goal.decreases-loop-reader
decreases-loop-reader l = l.reader.left
