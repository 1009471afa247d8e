-- Why the cycle `first_sure` in src/finding.rt ends.

use Rattle.std.proofs.Common.{length}
use Rattle.ls_race_reports.proofs.finding.+first_sure.Given as goal

abbrev pub decreases-first_sure : goal.decreases-first_sure
decreases-first_sure l = length l.races.now
