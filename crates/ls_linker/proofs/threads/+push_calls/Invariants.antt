-- Why the cycle `push_calls` in src/threads.rt ends.

use Rattle.std.proofs.Common.{length}
use Rattle.ls_linker.proofs.threads.+push_calls.Given as goal

abbrev pub decreases-push_calls : goal.decreases-push_calls
decreases-push_calls l = length l.calls.now
