-- Why `reaches_end` in src/endings.rt ends: it looks into fewer blocks.

use Rattle.ls_java_statements.proofs.endings.+reaches_end.Given as goal

abbrev pub decreases-reaches_end : goal.decreases-reaches_end
decreases-reaches_end l = l.limit
