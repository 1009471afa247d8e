-- Why the cycle `add_threads` in src/threads.rt ends.

use Rattle.std.proofs.Common.{length}
use Rattle.ls_linker.proofs.threads.+add_threads.Given as goal

abbrev pub decreases-add_threads : goal.decreases-add_threads
decreases-add_threads l = length l.threads.now
