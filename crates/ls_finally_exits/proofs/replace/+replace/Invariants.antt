-- What the loop `s` of the cycle `replace` in src/replace.rt keeps, and why the cycle ends.

use Rattle.std.proofs.Common.{◌+◌, ◌*◌, drop}
use Rattle.ls_lowered.specs.Plain.{plain_statement, statements_of}
use Rattle.ls_finally_exits.proofs.Blocks.{Going}
use Rattle.ls_finally_copies.proofs.Weights.{size, sizes}
use Rattle.ls_finally_exits.proofs.replace.+replace.Given as goal

abbrev pub decreases-replace_exits : goal.decreases-replace_exits
decreases-replace_exits l = 4 * size (plain_statement l.s.now)

abbrev pub decreases-replace_in_all : goal.decreases-replace_in_all
decreases-replace_in_all l = 4 * sizes (statements_of l.statements.now) + 1

abbrev pub decreases-replace_in_part : goal.decreases-replace_in_part
decreases-replace_in_part l = 4 * size (plain_statement l.s.now) + 1

abbrev pub decreases-replace_in_two : goal.decreases-replace_in_two
decreases-replace_in_two l = 4 * (size (plain_statement l.first.now) + size (plain_statement l.second.now)) + 2

abbrev pub decreases-replace_in_leavable : goal.decreases-replace_in_leavable
decreases-replace_in_leavable l = 4 * (size (plain_statement l.body.now) + sizes (statements_of l.own.now)) + 2

abbrev pub invariant-replace_in_all-loop-s : goal.invariant-replace_in_all-loop-s
invariant-replace_in_all-loop-s l = Going l.kept l.inside l.fn.next l.statements l.out.items l.next
    (drop l.s-index l.statements)
