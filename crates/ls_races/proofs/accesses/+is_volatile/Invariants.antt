-- How `is_volatile` in src/accesses.rt comes to an end.
use Rattle.std.proofs.Common.{length}
use Rattle.ls_races.proofs.accesses.+is_volatile.Given as goal

abbrev pub decreases-is_volatile : goal.decreases-is_volatile
decreases-is_volatile l = length l.classes.now
