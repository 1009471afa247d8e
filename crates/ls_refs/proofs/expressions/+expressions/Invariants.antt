-- Why `expressions` in src/expressions.rt and its recursion end.

use Rattle.std.proofs.Common.{◌+◌, ◌*◌}
use Rattle.ls_checked.specs.Plain.{plain as checked, all_plain as all_checked}
use Rattle.ls_refs.proofs.Weights.{weight, weights}
use Rattle.ls_refs.proofs.expressions.+expressions.Given as goal

abbrev pub decreases-lower_expression : goal.decreases-lower_expression
decreases-lower_expression l = 4 * weight (checked l.e.now)

abbrev pub decreases-lower_unary : goal.decreases-lower_unary
decreases-lower_unary l = 4 * weight (checked l.e.now) + 2

abbrev pub decreases-lower_two : goal.decreases-lower_two
decreases-lower_two l = 4 * (weight (checked l.a.now) + weight (checked l.b.now)) + 2

abbrev pub decreases-lower_call : goal.decreases-lower_call
decreases-lower_call l = 4 * (weight (checked l.target.now) + weights (all_checked l.arguments.now)) + 2

abbrev pub decreases-lower_boxed : goal.decreases-lower_boxed
decreases-lower_boxed l = 4 * weight (checked l.e.now) + 1

abbrev pub decreases-lower_expressions : goal.decreases-lower_expressions
decreases-lower_expressions l = 4 * weights (all_checked l.es.now)
