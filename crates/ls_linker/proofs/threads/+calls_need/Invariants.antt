-- Why the cycle `calls_need` in src/threads.rt ends.

use Rattle.std.proofs.Common.{length}
use Rattle.ls_linker.proofs.threads.+calls_need.Given as goal

abbrev pub decreases-calls_need : goal.decreases-calls_need
decreases-calls_need l = length l.calls.now
