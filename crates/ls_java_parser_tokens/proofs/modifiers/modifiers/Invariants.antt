-- What the loop `all` of `modifiers` in src/modifiers.rt keeps, and why the loop ends.

use Rattle.std.proofs.Common.{◌≤◌}
use Rattle.ls_java_parser_tokens.proofs.modifiers.modifiers.Given as goal

abbrev pub invariant-loop-all : goal.invariant-loop-all
invariant-loop-all l = l.reader.left ≤ l.initial.reader.left

abbrev pub decreases-loop-all : goal.decreases-loop-all
decreases-loop-all l = l.reader.left
