-- How `is_any_volatile` in src/accesses.rt comes to an end.
use Rattle.std.proofs.Common.{length}
use Rattle.ls_races.proofs.accesses.+is_any_volatile.Given as goal

abbrev pub decreases-is_any_volatile : goal.decreases-is_any_volatile
decreases-is_any_volatile l = length l.classes.now
