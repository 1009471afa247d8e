-- Why the loop `here` of `list_end` in src/ahead.rt ends.

use Rattle.std.proofs.Common.{◌-◌, length}
use Rattle.ls_java_parser_tokens.proofs.ahead.list_end.Given as goal

abbrev pub decreases-loop-here : goal.decreases-loop-here
decreases-loop-here l = l.end - l.here
