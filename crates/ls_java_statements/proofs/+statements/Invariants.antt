-- Why the cycle `statements` ends: each function goes fewer nodes down, or goes on to one of a smaller number.

use Rattle.std.proofs.Common.{◌+◌, ◌*◌}
use Rattle.ls_java_statements.proofs.+statements.Given as goal

abbrev pub decreases-statements::statement : goal.decreases-statements::statement
decreases-statements::statement l = l.depth.left * 40 + 5

abbrev pub decreases-statements::statements : goal.decreases-statements::statements
decreases-statements::statements l = l.depth.left * 40 + 6

abbrev pub decreases-statements::block : goal.decreases-statements::block
decreases-statements::block l = l.depth.left * 40 + 8

abbrev pub decreases-statements::inside : goal.decreases-statements::inside
decreases-statements::inside l = l.depth.left * 40 + 8

abbrev pub decreases-statements::body : goal.decreases-statements::body
decreases-statements::body l = l.depth.left * 40 + 9

abbrev pub decreases-statements::labeled : goal.decreases-statements::labeled
decreases-statements::labeled l = l.depth.left * 40 + 10

abbrev pub decreases-branches::if_statement : goal.decreases-branches::if_statement
decreases-branches::if_statement l = l.depth.left * 40 + 20

abbrev pub decreases-branches::branches : goal.decreases-branches::branches
decreases-branches::branches l = l.depth.left * 40 + 15

abbrev pub decreases-branches::else_branch : goal.decreases-branches::else_branch
decreases-branches::else_branch l = l.depth.left * 40 + 12

abbrev pub decreases-branches::try_statement : goal.decreases-branches::try_statement
decreases-branches::try_statement l = l.depth.left * 40 + 20

abbrev pub decreases-loops::while_statement : goal.decreases-loops::while_statement
decreases-loops::while_statement l = l.depth.left * 40 + 20

abbrev pub decreases-loops::do_statement : goal.decreases-loops::do_statement
decreases-loops::do_statement l = l.depth.left * 40 + 20

abbrev pub decreases-fors::for_statement : goal.decreases-fors::for_statement
decreases-fors::for_statement l = l.depth.left * 40 + 20

abbrev pub decreases-fors::for_each : goal.decreases-fors::for_each
decreases-fors::for_each l = l.depth.left * 40 + 20

abbrev pub decreases-switches::switch_statement : goal.decreases-switches::switch_statement
decreases-switches::switch_statement l = l.depth.left * 40 + 20

abbrev pub decreases-switches::case_body : goal.decreases-switches::case_body
decreases-switches::case_body l = l.depth.left * 40 + 12

abbrev pub decreases-switches::case_end : goal.decreases-switches::case_end
decreases-switches::case_end l = l.depth.left * 40 + 10

abbrev pub decreases-monitors::synchronized : goal.decreases-monitors::synchronized
decreases-monitors::synchronized l = l.depth.left * 40 + 20
