-- Why the cycle `push_kinds` in src/race_reports.rt ends.

use Rattle.std.proofs.Common.{length}
use Rattle.ls_explore_commands.proofs.race_reports.+push_kinds.Given as goal

abbrev pub decreases-push_kinds : goal.decreases-push_kinds
decreases-push_kinds l = length l.races.now
