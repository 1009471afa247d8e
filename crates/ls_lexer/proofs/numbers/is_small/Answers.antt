-- Why `is_small` in src/numbers.rt keeps its contract.

use Rattle.std.proofs.Common.{◌+◌, ◌*◌, sym, arith}
use Rattle.ls_lexer.proofs.Digits.{value_grows}
use Rattle.ls_lexer.proofs.numbers.is_small.Goals as goal

pub returns-then-value-gt-MOST : goal.returns-then-value-gt-MOST
returns-then-value-gt-MOST c =
    sym (value_grows (c.loop-b.value * 10 + c.saturating_sub.result) c.loop-b.invariant c.loop-b-test.true
    (omega (arith, c.saturating_sub.ensures)) c.if-value-gt-MOST.true)
