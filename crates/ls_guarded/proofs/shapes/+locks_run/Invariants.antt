-- What gets smaller at each call of `locks_run` in src/shapes.rt.

use Rattle.std.proofs.Common.{length}
use Rattle.ls_guarded.proofs.shapes.+locks_run.Given as goal

abbrev pub decreases-locks_run : goal.decreases-locks_run
decreases-locks_run l = length l.ss.now
