-- What the loop `s` of the cycle `statements` in src/exits.rt keeps, and why the cycle ends.

use Rattle.std.proofs.Common.{◌≡◌, ◌+◌, ◌*◌, ◌++◌, drop}
use Rattle.ls_lowered.specs.Plain.{plain_statement, statements_of}
use Rattle.ls_finally_copies.proofs.Weights.{size, sizes}
use Rattle.ls_finally_exits.specs.Exits.{all_exits}
use Rattle.ls_finally_exits.specs.PlainExits.{plain_exits}
use Rattle.ls_finally_exits.proofs.exits.+statements.Given as goal

abbrev pub decreases-collect_exits : goal.decreases-collect_exits
decreases-collect_exits l = 4 * size (plain_statement l.s.now)

abbrev pub decreases-collect_leavable : goal.decreases-collect_leavable
decreases-collect_leavable l = 4 * (size (plain_statement l.body.now) + sizes (statements_of l.own.now)) + 2

abbrev pub decreases-collect_block : goal.decreases-collect_block
decreases-collect_block l = 4 * sizes (statements_of l.statements.now) + 1

abbrev pub invariant-collect_block-loop-s : goal.invariant-collect_block-loop-s
invariant-collect_block-loop-s l =
    plain_exits l.out.items ++ all_exits l.inside (statements_of (drop l.s-index l.statements)) ≡ plain_exits
    l.initial.out.items ++ all_exits l.inside (statements_of l.statements)
