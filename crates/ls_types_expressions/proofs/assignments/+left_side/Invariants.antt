-- Why the cycle `left_side` in src/assignments.rt ends.

use Rattle.ls_types_elaboration.specs.Placed.{placed}
use Rattle.ls_types_expressions.proofs.Nodes.{nodes}
use Rattle.ls_types_expressions.proofs.assignments.+left_side.Given as goal

abbrev pub decreases-left_side : goal.decreases-left_side
decreases-left_side l = nodes (placed l.target.now)
