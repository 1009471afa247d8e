-- What the loop `reader` of `constants_in_braces` in src/heads.rt keeps, and why the loop ends.

use Rattle.std.proofs.Common.{◌≤◌}
use Rattle.ls_java_parser.proofs.heads.constants_in_braces.Given as goal

abbrev pub invariant-loop-reader : goal.invariant-loop-reader
invariant-loop-reader l = l.reader.left ≤ l.initial.reader.left

abbrev pub decreases-loop-reader : goal.decreases-loop-reader
decreases-loop-reader l = l.reader.left
