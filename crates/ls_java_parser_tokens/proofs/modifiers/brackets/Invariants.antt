-- What the loop `reader` of `brackets` in src/modifiers.rt keeps, and why the loop ends.

use Rattle.std.proofs.Common.{◌≤◌}
use Rattle.ls_java_parser_tokens.proofs.modifiers.brackets.Given as goal

abbrev pub invariant-loop-reader : goal.invariant-loop-reader
invariant-loop-reader l = l.reader.left ≤ l.initial.reader.left

abbrev pub decreases-loop-reader : goal.decreases-loop-reader
decreases-loop-reader l = l.reader.left
