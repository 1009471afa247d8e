-- What the loop `s` of the cycle `statements` in src/copy.rt keeps, and why the cycle ends.

use Rattle.std.proofs.Common.{◌≡◌, ◌+◌, ◌*◌, drop}
use Rattle.ls_lowered.specs.Plain.{plain_statement, in_front, statements_of}
use Rattle.ls_finally_copies.proofs.Weights.{size, sizes}
use Rattle.ls_finally_copies.proofs.copy.+statements.Given as goal

abbrev pub decreases-copy_statement : goal.decreases-copy_statement
decreases-copy_statement l = 4 * size (plain_statement l.s.now)

abbrev pub decreases-part : goal.decreases-part
decreases-part l = 4 * size (plain_statement l.s.now) + 1

abbrev pub decreases-two_parts : goal.decreases-two_parts
decreases-two_parts l = 4 * (size (plain_statement l.first.now) + size (plain_statement l.second.now)) + 2

abbrev pub decreases-part_and_exits : goal.decreases-part_and_exits
decreases-part_and_exits l = 4 * (size (plain_statement l.body.now) + sizes (statements_of l.own.now)) + 2

abbrev pub decreases-copy_block : goal.decreases-copy_block
decreases-copy_block l = 4 * sizes (statements_of l.statements.now) + 1

abbrev pub invariant-copy_block-loop-s : goal.invariant-copy_block-loop-s
invariant-copy_block-loop-s l =
    in_front l.out.items (statements_of (drop l.s-index l.statements)) ≡ statements_of l.statements
