-- Why the cycle `local_named` in src/known.rt ends.

use Rattle.std.proofs.Common.{length}
use Rattle.ls_types_elaboration.proofs.known.+local_named.Given as goal

abbrev pub decreases-local_named : goal.decreases-local_named
decreases-local_named l = length l.locals.now
