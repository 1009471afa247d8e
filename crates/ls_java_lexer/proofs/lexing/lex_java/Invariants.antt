-- What the loop `at` of `lex_java` in src/lexing.rt keeps, and why the loop ends.

use Rattle.std.proofs.Common.{◌-◌, ◌≤◌, length}
use Rattle.ls_java_lexer.specs.Order.{AreInOrder}
use Rattle.ls_java_lexer.proofs.lexing.lex_java.Given as goal

abbrev pub invariant-loop-at : goal.invariant-loop-at
invariant-loop-at l = AreInOrder 0 l.tokens.items l.at × (l.at ≤ length l.text)

abbrev pub decreases-loop-at : goal.decreases-loop-at
decreases-loop-at l = length l.text - l.at
