-- Why `is_among` in src/sought.rt ends.

use Rattle.std.proofs.Common.{length}
use Rattle.ls_race_places.proofs.sought.+is_among.Given as goal

abbrev pub decreases-is_among : goal.decreases-is_among
decreases-is_among l = length l.texts.now
