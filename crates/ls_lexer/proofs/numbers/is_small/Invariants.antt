-- What the loop `b` of `is_small` in src/numbers.rt keeps.

use Rattle.ls_lexer.proofs.Digits.{Valued}
use Rattle.ls_lexer.proofs.numbers.is_small.Given as goal

abbrev pub invariant-loop-b : goal.invariant-loop-b
invariant-loop-b l = Valued l.text l.b-index l.value
