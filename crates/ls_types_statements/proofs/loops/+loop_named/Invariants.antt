-- Why the cycle `loop_named` in src/loops.rt ends.

use Rattle.std.proofs.Common.{length}
use Rattle.ls_types_statements.proofs.loops.+loop_named.Given as goal

abbrev pub decreases-loop_named : goal.decreases-loop_named
decreases-loop_named l = length l.loops.now
