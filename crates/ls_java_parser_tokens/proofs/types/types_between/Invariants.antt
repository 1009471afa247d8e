-- What the loop `between` of `types_between` in src/types.rt keeps, and why the loop ends.

use Rattle.std.proofs.Common.{◌≤◌}
use Rattle.ls_java_parser_tokens.proofs.types.types_between.Given as goal

abbrev pub invariant-loop-between : goal.invariant-loop-between
invariant-loop-between l = l.reader.left ≤ l.initial.reader.left

abbrev pub decreases-loop-between : goal.decreases-loop-between
decreases-loop-between l = l.reader.left
