-- Why `lex_java` in src/lexing.rt keeps its contract.

use Rattle.std.proofs.Common.{refl, arith}
use Rattle.ls_java_lexer.proofs.Orders.{order_last}
use Rattle.ls_java_lexer.proofs.lexing.lex_java.Goals as goal

pub returns : goal.returns
returns c =
    order_last _ c.loop-at.tokens.items _ c.loop-at.at _ _ c.in_ok-push-2.ensures c.loop-at.invariant.0 refl
    (omega arith) (omega arith) (cc)
