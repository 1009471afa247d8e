-- What the loop `rest` of `lex_any` in src/lexing.rt keeps, and why the loop ends.

use Rattle.std.proofs.Common.{length}
use Rattle.ls_lexer.proofs.Texts.{InText}
use Rattle.ls_lexer.proofs.lexing.lex_any.Given as goal

abbrev pub invariant-loop-rest : goal.invariant-loop-rest
invariant-loop-rest l = InText l.text l.out.items l.rest l.at

abbrev pub decreases-loop-rest : goal.decreases-loop-rest
decreases-loop-rest l = length l.rest
