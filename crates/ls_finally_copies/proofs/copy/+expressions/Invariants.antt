-- Why the cycle `expressions` in src/copy.rt ends.

use Rattle.std.proofs.Common.{◌+◌, ◌*◌}
use Rattle.ls_lowered.specs.Plain.{plain, all_plain}
use Rattle.ls_finally_copies.proofs.Weights.{weight, weights}
use Rattle.ls_finally_copies.proofs.copy.+expressions.Given as goal

abbrev pub decreases-copy_expression : goal.decreases-copy_expression
decreases-copy_expression l = 4 * weight (plain l.e.now)

abbrev pub decreases-boxed : goal.decreases-boxed
decreases-boxed l = 4 * weight (plain l.e.now) + 1

abbrev pub decreases-boxed_two : goal.decreases-boxed_two
decreases-boxed_two l = 4 * (weight (plain l.a.now) + weight (plain l.b.now)) + 2

abbrev pub decreases-boxed_three : goal.decreases-boxed_three
decreases-boxed_three l = 4 * (weight (plain l.e.now) + weight (plain l.a.now) + weight (plain l.b.now)) + 3

abbrev pub decreases-boxed_call : goal.decreases-boxed_call
decreases-boxed_call l = 4 * (weight (plain l.e.now) + weights (all_plain l.es.now)) + 2

abbrev pub decreases-boxed_all : goal.decreases-boxed_all
decreases-boxed_all l = 4 * weights (all_plain l.es.now) + 1
