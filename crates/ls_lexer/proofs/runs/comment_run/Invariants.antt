-- What the loop `n` of `comment_run` in src/runs.rt keeps, and why the loop ends.

use Rattle.std.proofs.Common.{◌-◌, length}
use Rattle.ls_lexer.proofs.Spans.{Open}
use Rattle.ls_lexer.proofs.runs.comment_run.Given as goal

abbrev pub invariant-loop-n : goal.invariant-loop-n
invariant-loop-n l = Open l.bytes l.n

abbrev pub decreases-loop-n : goal.decreases-loop-n
decreases-loop-n l = length l.bytes - l.n
