-- Why the recursion of `kind_within` in src/types.rt ends.

use Rattle.ls_java_tables.proofs.types.+kind_within.Given as goal

abbrev pub decreases-kind_within : goal.decreases-kind_within
decreases-kind_within l = l.limit
