-- Why the cycle `expressions` in src/expressions.rt ends.

use Rattle.std.proofs.Common.{◌+◌, ◌*◌}
use Rattle.ls_types_elaboration.specs.Placed.{placed, placed_all, placed_target}
use Rattle.ls_types_expressions.proofs.Nodes.{nodes, all_nodes, call_nodes}
use Rattle.ls_types_expressions.proofs.expressions.+expressions.Given as goal

abbrev pub decreases-typed : goal.decreases-typed
decreases-typed l = 3 * nodes (placed l.e.now)

abbrev pub decreases-binary : goal.decreases-binary
decreases-binary l = 3 * (nodes (placed l.left.now) + nodes (placed l.right.now)) + 1

abbrev pub decreases-item : goal.decreases-item
decreases-item l = 3 * (nodes (placed l.array.now) + nodes (placed l.index.now)) + 2

abbrev pub decreases-own_call : goal.decreases-own_call
decreases-own_call l = 3 * all_nodes (placed_all l.arguments.now) + 1

abbrev pub decreases-call_on : goal.decreases-call_on
decreases-call_on l = 3 * (nodes (placed l.target.now) + all_nodes (placed_all l.arguments.now)) + 1

abbrev pub decreases-making : goal.decreases-making
decreases-making l = 3 * all_nodes (placed_all l.arguments.now) + 1

abbrev pub decreases-markable : goal.decreases-markable
decreases-markable l = 3 * all_nodes (placed_all l.arguments.now) + 1

abbrev pub decreases-fitting : goal.decreases-fitting
decreases-fitting l = 3 * nodes (placed l.e.now) + 1

abbrev pub decreases-passed : goal.decreases-passed
decreases-passed l = 3 * all_nodes (placed_all l.es.now)

abbrev pub decreases-call : goal.decreases-call
decreases-call l = 3 * call_nodes (placed_target l.target.now) (placed_all l.arguments.now) + 2
