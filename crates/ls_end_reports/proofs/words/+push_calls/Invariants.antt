-- Why the cycle `push_calls` in src/words.rt ends.

use Rattle.std.proofs.Common.{length}
use Rattle.ls_end_reports.proofs.words.+push_calls.Given as goal

abbrev pub decreases-push_calls : goal.decreases-push_calls
decreases-push_calls l = length l.texts.now
