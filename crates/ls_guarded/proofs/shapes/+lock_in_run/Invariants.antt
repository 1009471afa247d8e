-- What gets smaller at each call of `lock_in_run` in src/shapes.rt.

use Rattle.std.proofs.Common.{length}
use Rattle.ls_guarded.proofs.shapes.+lock_in_run.Given as goal

abbrev pub decreases-lock_in_run : goal.decreases-lock_in_run
decreases-lock_in_run l = length l.ss.now
