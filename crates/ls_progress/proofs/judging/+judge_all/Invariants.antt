-- Why the cycle `judge_all` in src/judging.rt ends.

use Rattle.std.proofs.Common.{length}
use Rattle.ls_progress.proofs.judging.+judge_all.Given as goal

abbrev pub decreases-judge_all : goal.decreases-judge_all
decreases-judge_all l = length l.threads.now
