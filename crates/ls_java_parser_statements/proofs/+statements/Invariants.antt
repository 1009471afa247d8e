-- What the loops of the cycle `statements` in src/lib.rt keep, and why the cycle and its loops end.

use Rattle.std.proofs.Common.{◌+◌, ◌*◌, ◌≤◌}
use Rattle.ls_java_parser_statements.proofs.+statements.Given as goal

abbrev pub decreases-statements::block_statement : goal.decreases-statements::block_statement
decreases-statements::block_statement l = l.limit * 40 + 6

abbrev pub decreases-statements::statement : goal.decreases-statements::statement
decreases-statements::statement l = l.limit * 40 + 5

abbrev pub decreases-statements::other_statement : goal.decreases-statements::other_statement
decreases-statements::other_statement l = l.limit * 40 + 20

abbrev pub decreases-statements::labeled : goal.decreases-statements::labeled
decreases-statements::labeled l = l.limit * 40 + 15

abbrev pub decreases-statements::inner_block : goal.decreases-statements::inner_block
decreases-statements::inner_block l = l.limit * 40 + 20

abbrev pub decreases-statements::if_statement : goal.decreases-statements::if_statement
decreases-statements::if_statement l = l.limit * 40 + 20

abbrev pub decreases-statements::else_statement : goal.decreases-statements::else_statement
decreases-statements::else_statement l = l.limit * 40 + 10

abbrev pub decreases-statements::synchronized : goal.decreases-statements::synchronized
decreases-statements::synchronized l = l.limit * 40 + 20

abbrev pub decreases-loops::while_statement : goal.decreases-loops::while_statement
decreases-loops::while_statement l = l.limit * 40 + 20

abbrev pub decreases-loops::do_statement : goal.decreases-loops::do_statement
decreases-loops::do_statement l = l.limit * 40 + 20

abbrev pub decreases-loops::for_statement : goal.decreases-loops::for_statement
decreases-loops::for_statement l = l.limit * 40 + 20

abbrev pub decreases-loops::for_each : goal.decreases-loops::for_each
decreases-loops::for_each l = l.limit * 40 + 10

abbrev pub decreases-loops::for_basic : goal.decreases-loops::for_basic
decreases-loops::for_basic l = l.limit * 40 + 10

abbrev pub decreases-switches::group_statements : goal.decreases-switches::group_statements
decreases-switches::group_statements l = l.limit * 40 + 10

abbrev pub decreases-switches::group : goal.decreases-switches::group
decreases-switches::group l = l.limit * 40 + 12

abbrev pub decreases-switches::groups : goal.decreases-switches::groups
decreases-switches::groups l = l.limit * 40 + 15

abbrev pub decreases-switches::switch_statement : goal.decreases-switches::switch_statement
decreases-switches::switch_statement l = l.limit * 40 + 20

abbrev pub decreases-switches::catch_clause : goal.decreases-switches::catch_clause
decreases-switches::catch_clause l = l.limit * 40 + 12

abbrev pub decreases-switches::catches : goal.decreases-switches::catches
decreases-switches::catches l = l.limit * 40 + 15

abbrev pub decreases-switches::try_statement : goal.decreases-switches::try_statement
decreases-switches::try_statement l = l.limit * 40 + 20

abbrev pub decreases-switches::finally : goal.decreases-switches::finally
decreases-switches::finally l = l.limit * 40 + 12

abbrev pub decreases-statements::push_statement : goal.decreases-statements::push_statement
decreases-statements::push_statement l = l.limit * 40 + 7

abbrev pub decreases-statements::statements_in_braces : goal.decreases-statements::statements_in_braces
decreases-statements::statements_in_braces l = l.limit * 40 + 8

abbrev pub decreases-statements::block : goal.decreases-statements::block
decreases-statements::block l = l.limit * 40 + 9

abbrev pub decreases-statements::branches : goal.decreases-statements::branches
decreases-statements::branches l = l.limit * 40 + 15

abbrev pub decreases-switches::case_statements : goal.decreases-switches::case_statements
decreases-switches::case_statements l = l.limit * 40 + 8

abbrev pub decreases-switches::push_group : goal.decreases-switches::push_group
decreases-switches::push_group l = l.limit * 40 + 13

abbrev pub decreases-switches::groups_in_braces : goal.decreases-switches::groups_in_braces
decreases-switches::groups_in_braces l = l.limit * 40 + 14

abbrev pub decreases-switches::push_catch : goal.decreases-switches::push_catch
decreases-switches::push_catch l = l.limit * 40 + 13

abbrev pub decreases-switches::all_catches : goal.decreases-switches::all_catches
decreases-switches::all_catches l = l.limit * 40 + 14

abbrev pub decreases-switches::handlers : goal.decreases-switches::handlers
decreases-switches::handlers l = l.limit * 40 + 16

abbrev pub invariant-statements::statements_in_braces-loop-reader :
    goal.invariant-statements::statements_in_braces-loop-reader
invariant-statements::statements_in_braces-loop-reader l = (l.reader.left ≤ l.initial.reader.left)

abbrev pub decreases-statements::statements_in_braces-loop-reader :
    goal.decreases-statements::statements_in_braces-loop-reader
decreases-statements::statements_in_braces-loop-reader l = l.reader.left

abbrev pub invariant-switches::case_statements-loop-reader : goal.invariant-switches::case_statements-loop-reader
invariant-switches::case_statements-loop-reader l = (l.reader.left ≤ l.initial.reader.left)

abbrev pub decreases-switches::case_statements-loop-reader : goal.decreases-switches::case_statements-loop-reader
decreases-switches::case_statements-loop-reader l = l.reader.left

abbrev pub invariant-switches::groups_in_braces-loop-reader : goal.invariant-switches::groups_in_braces-loop-reader
invariant-switches::groups_in_braces-loop-reader l = (l.reader.left ≤ l.initial.reader.left)

abbrev pub decreases-switches::groups_in_braces-loop-reader : goal.decreases-switches::groups_in_braces-loop-reader
decreases-switches::groups_in_braces-loop-reader l = l.reader.left

abbrev pub invariant-switches::all_catches-loop-reader : goal.invariant-switches::all_catches-loop-reader
invariant-switches::all_catches-loop-reader l = (l.reader.left ≤ l.initial.reader.left)

abbrev pub decreases-switches::all_catches-loop-reader : goal.decreases-switches::all_catches-loop-reader
decreases-switches::all_catches-loop-reader l = l.reader.left
