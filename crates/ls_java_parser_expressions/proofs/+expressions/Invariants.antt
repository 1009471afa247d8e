-- What the loops of the cycle `expressions` in src/lib.rt keep, and why the cycle and its loops end.

use Rattle.std.proofs.Common.{◌+◌, ◌*◌, ◌≤◌}
use Rattle.ls_java_parser_expressions.proofs.+expressions.Given as goal

abbrev pub decreases-expressions::expression : goal.decreases-expressions::expression
decreases-expressions::expression l = l.limit * 40 + 12

abbrev pub decreases-expressions::assigned : goal.decreases-expressions::assigned
decreases-expressions::assigned l = l.limit * 40 + 11

abbrev pub decreases-expressions::conditional : goal.decreases-expressions::conditional
decreases-expressions::conditional l = l.limit * 40 + 10

abbrev pub decreases-expressions::chosen : goal.decreases-expressions::chosen
decreases-expressions::chosen l = l.limit * 40 + 30

abbrev pub decreases-expressions::binary : goal.decreases-expressions::binary
decreases-expressions::binary l = l.limit * 40 + 9

abbrev pub decreases-expressions::joined : goal.decreases-expressions::joined
decreases-expressions::joined l = l.limit * 40 + 8

abbrev pub decreases-expressions::unary : goal.decreases-expressions::unary
decreases-expressions::unary l = l.limit * 40 + 7

abbrev pub decreases-expressions::signed : goal.decreases-expressions::signed
decreases-expressions::signed l = l.limit * 40 + 30

abbrev pub decreases-expressions::counted : goal.decreases-expressions::counted
decreases-expressions::counted l = l.limit * 40 + 30

abbrev pub decreases-expressions::cast : goal.decreases-expressions::cast
decreases-expressions::cast l = l.limit * 40 + 30

abbrev pub decreases-suffixes::postfix : goal.decreases-suffixes::postfix
decreases-suffixes::postfix l = l.limit * 40 + 36

abbrev pub decreases-suffixes::suffix : goal.decreases-suffixes::suffix
decreases-suffixes::suffix l = l.limit * 40 + 34

abbrev pub decreases-suffixes::member : goal.decreases-suffixes::member
decreases-suffixes::member l = l.limit * 40 + 32

abbrev pub decreases-suffixes::call : goal.decreases-suffixes::call
decreases-suffixes::call l = l.limit * 40 + 30

abbrev pub decreases-suffixes::item : goal.decreases-suffixes::item
decreases-suffixes::item l = l.limit * 40 + 30

abbrev pub decreases-primaries::primary : goal.decreases-primaries::primary
decreases-primaries::primary l = l.limit * 40 + 34

abbrev pub decreases-primaries::own_call : goal.decreases-primaries::own_call
decreases-primaries::own_call l = l.limit * 40 + 30

abbrev pub decreases-primaries::paren : goal.decreases-primaries::paren
decreases-primaries::paren l = l.limit * 40 + 30

abbrev pub decreases-creations::creation : goal.decreases-creations::creation
decreases-creations::creation l = l.limit * 40 + 32

abbrev pub decreases-creations::object : goal.decreases-creations::object
decreases-creations::object l = l.limit * 40 + 30

abbrev pub decreases-creations::sized_array : goal.decreases-creations::sized_array
decreases-creations::sized_array l = l.limit * 40 + 30

abbrev pub decreases-creations::items : goal.decreases-creations::items
decreases-creations::items l = l.limit * 40 + 28

abbrev pub decreases-creations::list : goal.decreases-creations::list
decreases-creations::list l = l.limit * 40 + 26

abbrev pub decreases-creations::initializer : goal.decreases-creations::initializer
decreases-creations::initializer l = l.limit * 40 + 24

abbrev pub decreases-lambdas::lambda : goal.decreases-lambdas::lambda
decreases-lambdas::lambda l = l.limit * 40 + 8

abbrev pub invariant-expressions::binary-loop-more : goal.invariant-expressions::binary-loop-more
invariant-expressions::binary-loop-more l = (l.reader.left ≤ l.initial.reader.left) × (l.left.height ≤ l.limit)

abbrev pub decreases-expressions::binary-loop-more : goal.decreases-expressions::binary-loop-more
decreases-expressions::binary-loop-more l = l.reader.left

abbrev pub invariant-suffixes::postfix-loop-reader : goal.invariant-suffixes::postfix-loop-reader
invariant-suffixes::postfix-loop-reader l = (l.reader.left ≤ l.initial.reader.left) × (l.left.height ≤ l.limit + 1)

abbrev pub decreases-suffixes::postfix-loop-reader : goal.decreases-suffixes::postfix-loop-reader
decreases-suffixes::postfix-loop-reader l = l.reader.left

abbrev pub invariant-creations::list-loop-more : goal.invariant-creations::list-loop-more
invariant-creations::list-loop-more l = (l.reader.left ≤ l.initial.reader.left) × (l.all.height ≤ l.limit)

abbrev pub decreases-creations::list-loop-more : goal.decreases-creations::list-loop-more
decreases-creations::list-loop-more l = l.reader.left

abbrev pub invariant-creations::sized_array-loop-reader : goal.invariant-creations::sized_array-loop-reader
invariant-creations::sized_array-loop-reader l = (l.reader.left ≤ l.initial.reader.left) × (l.lengths.height ≤ l.limit)

abbrev pub decreases-creations::sized_array-loop-reader : goal.decreases-creations::sized_array-loop-reader
decreases-creations::sized_array-loop-reader l = l.reader.left
