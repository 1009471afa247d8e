-- Why the cycle `thread_named` in src/steps.rt ends.

use Rattle.std.proofs.Common.{length}
use Rattle.ls_types_reading.proofs.steps.+thread_named.Given as goal

abbrev pub decreases-thread_named : goal.decreases-thread_named
decreases-thread_named l = length l.threads.now
