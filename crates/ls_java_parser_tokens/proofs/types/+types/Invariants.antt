-- What the loops of the cycle `types` in src/types.rt keep, and why the cycle and its loops end.

use Rattle.std.proofs.Common.{◌+◌, ◌*◌, ◌≤◌}
use Rattle.ls_java_parser_tokens.proofs.types.+types.Given as goal

abbrev pub decreases-type_name : goal.decreases-type_name
decreases-type_name l = l.limit * 10 + 9

abbrev pub decreases-item_type : goal.decreases-item_type
decreases-item_type l = l.limit * 10 + 8

abbrev pub decreases-class_type : goal.decreases-class_type
decreases-class_type l = l.limit * 10 + 7

abbrev pub decreases-class_part : goal.decreases-class_part
decreases-class_part l = l.limit * 10 + 6

abbrev pub decreases-maybe_arguments : goal.decreases-maybe_arguments
decreases-maybe_arguments l = l.limit * 10 + 5

abbrev pub decreases-type_arguments : goal.decreases-type_arguments
decreases-type_arguments l = l.limit * 10 + 4

abbrev pub decreases-type_argument : goal.decreases-type_argument
decreases-type_argument l = l.limit * 10 + 3

abbrev pub decreases-bounded : goal.decreases-bounded
decreases-bounded l = l.limit * 10 + 10

abbrev pub invariant-class_type-loop-reader : goal.invariant-class_type-loop-reader
invariant-class_type-loop-reader l = (l.reader.left ≤ l.initial.reader.left) × (l.room ≤ l.limit)

abbrev pub decreases-class_type-loop-reader : goal.decreases-class_type-loop-reader
decreases-class_type-loop-reader l = l.reader.left

abbrev pub invariant-type_arguments-loop-reader : goal.invariant-type_arguments-loop-reader
invariant-type_arguments-loop-reader l = l.reader.left ≤ l.initial.reader.left

abbrev pub decreases-type_arguments-loop-reader : goal.decreases-type_arguments-loop-reader
decreases-type_arguments-loop-reader l = l.reader.left
