-- Why the cycle `continues` ends: each function goes fewer nodes down, or goes on to one of a smaller number.

use Rattle.std.proofs.Common.{◌+◌, ◌*◌}
use Rattle.ls_java_statements.proofs.endings.+continues.Given as goal

abbrev pub decreases-continues_in : goal.decreases-continues_in
decreases-continues_in l = l.limit * 5 + 1

abbrev pub decreases-any_continues : goal.decreases-any_continues
decreases-any_continues l = l.limit * 5 + 2

abbrev pub decreases-groups_continue : goal.decreases-groups_continue
decreases-groups_continue l = l.limit * 5 + 3

abbrev pub decreases-parts_continue : goal.decreases-parts_continue
decreases-parts_continue l = l.limit * 5 + 4
