-- What the loop `n` of `line_run` in src/runs.rt keeps, and why the loop ends.

use Rattle.std.proofs.Common.{◌-◌, length, not}
use Rattle.ls_lexer.specs.Characters.{is_line_end}
use Rattle.ls_lexer.proofs.Spans.{Ran}
use Rattle.ls_lexer.proofs.runs.line_run.Given as goal

abbrev pub invariant-loop-n : goal.invariant-loop-n
invariant-loop-n l = Ran (λ x. not (is_line_end x)) l.bytes l.n

abbrev pub decreases-loop-n : goal.decreases-loop-n
decreases-loop-n l = length l.bytes - l.n
