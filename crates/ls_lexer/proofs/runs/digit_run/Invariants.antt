-- What the loop `n` of `digit_run` in src/runs.rt keeps, and why the loop ends.

use Rattle.std.proofs.Common.{◌-◌, length}
use Rattle.ls_lexer.specs.Characters.{is_digit}
use Rattle.ls_lexer.proofs.Spans.{Ran}
use Rattle.ls_lexer.proofs.runs.digit_run.Given as goal

abbrev pub invariant-loop-n : goal.invariant-loop-n
invariant-loop-n l = Ran is_digit l.bytes l.n

abbrev pub decreases-loop-n : goal.decreases-loop-n
decreases-loop-n l = length l.bytes - l.n
