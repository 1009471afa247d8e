-- Why the loop `end` of `brackets_end` in src/ahead.rt ends.

use Rattle.std.proofs.Common.{◌-◌, length}
use Rattle.ls_java_parser_tokens.proofs.ahead.brackets_end.Given as goal

abbrev pub decreases-loop-end : goal.decreases-loop-end
decreases-loop-end l = length l.tokens - l.end
