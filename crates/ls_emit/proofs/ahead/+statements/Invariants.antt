-- What the loop `i` of the cycle `statements` in src/ahead.rt keeps, and why the cycle ends.

use Rattle.std.proofs.Common.{◌≡◌, ◌+◌, ◌*◌, ◌≤◌, ◌++◌, drop}
use Rattle.std.specs.Prelude.{reverse}
use Rattle.ls_lowered.specs.Plain.{plain_statement, statements_of}
use Rattle.ls_emit.specs.Statements.{statements_size, exits_size}
use Rattle.ls_emit.specs.Ahead.{block_ahead, exits_ahead, exit_sizes}
use Rattle.ls_emit.proofs.Weights.{weight, weights}
use Rattle.ls_emit.proofs.ahead.+statements.Given as goal

abbrev pub invariant-put_block-loop-i : goal.invariant-put_block-loop-i
invariant-put_block-loop-i l =
    (l.count ≡ statements_size (statements_of (drop l.i l.statements)))
    × (reverse l.out.items ≡ block_ahead (statements_of (drop l.i l.statements)) (reverse l.initial.out.items))

abbrev pub invariant-put_exits-loop-i : goal.invariant-put_exits-loop-i
invariant-put_exits-loop-i l =
    (l.count ≡ exits_size (statements_of (drop l.i l.exits)))
    × (reverse l.out.items ≡ exits_ahead (statements_of (drop l.i l.exits)) (reverse l.initial.out.items))
    × (reverse l.sizes.items ≡ exit_sizes (statements_of (drop l.i l.exits)) ++ reverse l.initial.sizes.items)

abbrev pub decreases-put_ahead : goal.decreases-put_ahead
decreases-put_ahead l = 2 * weight (plain_statement l.s.now)

abbrev pub decreases-put_block : goal.decreases-put_block
decreases-put_block l = 2 * weights (statements_of l.statements.now) + 1

abbrev pub decreases-put_two : goal.decreases-put_two
decreases-put_two l = 2 * (weight (plain_statement l.first.now) + weight (plain_statement l.second.now)) + 1

abbrev pub decreases-put_leavable : goal.decreases-put_leavable
decreases-put_leavable l = 2 * (weight (plain_statement l.body.now) + weights (statements_of l.exits.now)) + 3

abbrev pub decreases-put_exits : goal.decreases-put_exits
decreases-put_exits l = 2 * weights (statements_of l.exits.now) + 1
