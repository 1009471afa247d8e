-- Why the cycle `push_fields` in src/words.rt ends.

use Rattle.std.proofs.Common.{length}
use Rattle.ls_race_reports.proofs.words.+push_fields.Given as goal

abbrev pub decreases-push_fields : goal.decreases-push_fields
decreases-push_fields l = length l.classes.now
