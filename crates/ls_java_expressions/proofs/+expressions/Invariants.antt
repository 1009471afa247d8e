-- Why the cycle `expressions` ends: each function goes fewer nodes down, or goes on to one of a smaller number.

use Rattle.std.proofs.Common.{◌+◌, ◌*◌}
use Rattle.ls_java_expressions.proofs.+expressions.Given as goal

abbrev pub decreases-expressions::expression : goal.decreases-expressions::expression
decreases-expressions::expression l = l.depth.left * 40 + 5

abbrev pub decreases-expressions::field : goal.decreases-expressions::field
decreases-expressions::field l = l.depth.left * 40 + 10

abbrev pub decreases-expressions::operation : goal.decreases-expressions::operation
decreases-expressions::operation l = l.depth.left * 40 + 15

abbrev pub decreases-expressions::other : goal.decreases-expressions::other
decreases-expressions::other l = l.depth.left * 40 + 20

abbrev pub decreases-expressions::chosen : goal.decreases-expressions::chosen
decreases-expressions::chosen l = l.depth.left * 40 + 15

abbrev pub decreases-expressions::part : goal.decreases-expressions::part
decreases-expressions::part l = l.depth.left * 40 + 6

abbrev pub decreases-expressions::part_as : goal.decreases-expressions::part_as
decreases-expressions::part_as l = l.depth.left * 40 + 7

abbrev pub decreases-expressions::parts : goal.decreases-expressions::parts
decreases-expressions::parts l = l.depth.left * 40 + 8

abbrev pub decreases-expressions::operands : goal.decreases-expressions::operands
decreases-expressions::operands l = l.depth.left * 40 + 9

abbrev pub decreases-targets::target_of : goal.decreases-targets::target_of
decreases-targets::target_of l = l.depth.left * 40 + 12

abbrev pub decreases-targets::assignment : goal.decreases-targets::assignment
decreases-targets::assignment l = l.depth.left * 40 + 15

abbrev pub decreases-targets::count : goal.decreases-targets::count
decreases-targets::count l = l.depth.left * 40 + 15

abbrev pub decreases-invoking::call : goal.decreases-invoking::call
decreases-invoking::call l = l.depth.left * 40 + 30

abbrev pub decreases-invoking::class_call : goal.decreases-invoking::class_call
decreases-invoking::class_call l = l.depth.left * 40 + 25

abbrev pub decreases-invoking::called : goal.decreases-invoking::called
decreases-invoking::called l = l.depth.left * 40 + 15

abbrev pub decreases-invoking::updated : goal.decreases-invoking::updated
decreases-invoking::updated l = l.depth.left * 40 + 10

abbrev pub decreases-creating::creation : goal.decreases-creating::creation
decreases-creating::creation l = l.depth.left * 40 + 30

abbrev pub decreases-creating::object : goal.decreases-creating::object
decreases-creating::object l = l.depth.left * 40 + 12

abbrev pub decreases-creating::thread_local : goal.decreases-creating::thread_local
decreases-creating::thread_local l = l.depth.left * 40 + 20

abbrev pub decreases-creating::array : goal.decreases-creating::array
decreases-creating::array l = l.depth.left * 40 + 20

abbrev pub decreases-creating::with_items : goal.decreases-creating::with_items
decreases-creating::with_items l = l.depth.left * 40 + 10
