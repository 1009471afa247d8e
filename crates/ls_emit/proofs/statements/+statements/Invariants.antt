-- What the loops `s` and `x` of the cycle `statements` in src/statements.rt keep, and why the cycle ends.

use Rattle.std.proofs.Common.{◌≡◌, ◌+◌, ◌*◌, ◌≤◌, ◌++◌, drop}
use Rattle.ls_lowered.specs.Plain.{plain_statement, statements_of}
use Rattle.ls_emit.specs.Statements.{statements_size, exits_size, statements_code, exits_code, statements_rows}
use Rattle.ls_emit.specs.Statements.{exits_rows}
use Rattle.ls_emit.specs.Targets.{targets_of}
use Rattle.ls_emit.specs.Small.{AreSmallStatements}
use Rattle.ls_emit.specs.Ahead.{AreAheadOfBlock, AreAheadOfExits, left_by_block, left_by_exits}
use Rattle.ls_emit.proofs.Weights.{weight, weights}
use Rattle.ls_emit.proofs.statements.+statements.Given as goal

abbrev pub invariant-emit_block-loop-s : goal.invariant-emit_block-loop-s
invariant-emit_block-loop-s l =
    (l.out.instructions.items ++ statements_code (targets_of l.around) l.next
    (statements_of (drop l.s-index l.statements)) ≡ l.initial.out.instructions.items ++
    statements_code (targets_of l.around) l.place (statements_of l.statements))
    × (l.out.rows.items ++ statements_rows l.next (statements_of (drop l.s-index l.statements)) ≡
    l.initial.out.rows.items ++ statements_rows l.place (statements_of l.statements))
    × (l.next + statements_size (statements_of (drop l.s-index l.statements)) ≡ l.place + statements_size
    (statements_of l.statements))
    × AreSmallStatements (statements_of (drop l.s-index l.statements))
    × AreAheadOfBlock (statements_of (drop l.s-index l.statements)) l.out.sizes.now
    × (left_by_block (statements_of (drop l.s-index l.statements)) l.out.sizes.now ≡ left_by_block
    (statements_of l.statements) l.initial.out.sizes.now)
    × (weights (statements_of (drop l.s-index l.statements)) ≤ weights (statements_of l.statements))

abbrev pub invariant-emit_exits-loop-x : goal.invariant-emit_exits-loop-x
invariant-emit_exits-loop-x l =
    (l.out.instructions.items ++ exits_code (targets_of l.around) l.at.end l.next
    (statements_of (drop l.x-index l.exits)) ≡ l.initial.out.instructions.items ++
    exits_code (targets_of l.around) l.at.end l.at.place (statements_of l.exits))
    × (l.out.rows.items ++ exits_rows l.next (statements_of (drop l.x-index l.exits)) ≡ l.initial.out.rows.items ++
    exits_rows l.at.place (statements_of l.exits))
    × (l.next + exits_size (statements_of (drop l.x-index l.exits)) ≡ l.at.place + exits_size (statements_of l.exits))
    × AreSmallStatements (statements_of (drop l.x-index l.exits))
    × AreAheadOfExits (statements_of (drop l.x-index l.exits)) l.out.sizes.now
    × (left_by_exits (statements_of (drop l.x-index l.exits)) l.out.sizes.now ≡ left_by_exits (statements_of l.exits)
    l.initial.out.sizes.now)
    × (weights (statements_of (drop l.x-index l.exits)) ≤ weights (statements_of l.exits))
    × (l.number ≡ l.x-index)

abbrev pub decreases-emit_statement : goal.decreases-emit_statement
decreases-emit_statement l = 2 * weight (plain_statement l.s.now)

abbrev pub decreases-emit_block : goal.decreases-emit_block
decreases-emit_block l = 2 * weights (statements_of l.statements.now) + 1

abbrev pub decreases-emit_if : goal.decreases-emit_if
decreases-emit_if l = 2 * (weight (plain_statement l.first.now) + weight (plain_statement l.second.now)) + 1

abbrev pub decreases-emit_while : goal.decreases-emit_while
decreases-emit_while l = 2 * weight (plain_statement l.body.now) + 1

abbrev pub decreases-emit_guarded : goal.decreases-emit_guarded
decreases-emit_guarded l = 2 * (weight (plain_statement l.body.now) + weight (plain_statement l.handler.now)) + 1

abbrev pub decreases-emit_leavable : goal.decreases-emit_leavable
decreases-emit_leavable l = 2 * (weight (plain_statement l.body.now) + weights (statements_of l.exits.now)) + 3

abbrev pub decreases-emit_exits : goal.decreases-emit_exits
decreases-emit_exits l = 2 * weights (statements_of l.exits.now) + 1
