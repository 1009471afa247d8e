-- Why `effect` in src/targets.rt ends: it goes into fewer parentheses.

use Rattle.ls_java_expressions.proofs.targets.+effect.Given as goal

abbrev pub decreases-effect : goal.decreases-effect
decreases-effect l = l.depth.left
