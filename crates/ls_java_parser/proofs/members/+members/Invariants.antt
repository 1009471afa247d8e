-- What the loop of the cycle `members` in src/members.rt keeps, and why the cycle and its loop end.

use Rattle.std.proofs.Common.{◌+◌, ◌*◌, ◌≤◌}
use Rattle.ls_java_parser.proofs.members.+members.Given as goal

abbrev pub decreases-member : goal.decreases-member
decreases-member l = l.limit * 10 + 4

abbrev pub decreases-inner_type : goal.decreases-inner_type
decreases-inner_type l = l.limit * 10 + 3

abbrev pub decreases-class_body : goal.decreases-class_body
decreases-class_body l = l.limit * 10 + 7

abbrev pub decreases-type_declaration : goal.decreases-type_declaration
decreases-type_declaration l = l.limit * 10 + 9

abbrev pub decreases-push_member : goal.decreases-push_member
decreases-push_member l = l.limit * 10 + 5

abbrev pub decreases-members_in_braces : goal.decreases-members_in_braces
decreases-members_in_braces l = l.limit * 10 + 6

abbrev pub invariant-members_in_braces-loop-reader : goal.invariant-members_in_braces-loop-reader
invariant-members_in_braces-loop-reader l = (l.reader.left ≤ l.initial.reader.left)

abbrev pub decreases-members_in_braces-loop-reader : goal.decreases-members_in_braces-loop-reader
decreases-members_in_braces-loop-reader l = l.reader.left
