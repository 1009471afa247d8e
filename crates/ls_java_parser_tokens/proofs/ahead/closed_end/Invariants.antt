-- Why the loop `end` of `closed_end` in src/ahead.rt ends.

use Rattle.std.proofs.Common.{◌-◌, length}
use Rattle.ls_java_parser_tokens.proofs.ahead.closed_end.Given as goal

abbrev pub decreases-loop-end : goal.decreases-loop-end
decreases-loop-end l = length l.tokens - l.end
