-- Why the cycle `audit_all` in src/live.rt ends.

use Rattle.std.proofs.Common.{length}
use Rattle.ls_live.proofs.live.+audit_all.Given as goal

abbrev pub decreases-audit_all : goal.decreases-audit_all
decreases-audit_all g l = length l.seats.now
