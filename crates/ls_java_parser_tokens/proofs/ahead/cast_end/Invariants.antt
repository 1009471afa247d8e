-- Why the loop `seen` of `cast_end` in src/ahead.rt ends.

use Rattle.std.proofs.Common.{◌-◌, length}
use Rattle.ls_java_parser_tokens.proofs.ahead.cast_end.Given as goal

abbrev pub decreases-loop-seen : goal.decreases-loop-seen
decreases-loop-seen l = length l.tokens - l.seen
