-- Why the loop `here` of `escape_in` in src/gaps.rt ends.

use Rattle.std.proofs.Common.{◌-◌}
use Rattle.ls_java_lexer.proofs.gaps.escape_in.Given as goal

abbrev pub decreases-loop-here : goal.decreases-loop-here
decreases-loop-here l = l.end - l.here
