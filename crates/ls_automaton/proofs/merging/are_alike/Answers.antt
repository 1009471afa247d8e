-- Why `are_alike` in src/merging.rt keeps its contract and its loop `i`.

use Rattle.std.proofs.Common.{arith}
use Rattle.ls_automaton.proofs.Joined.{first_alike_all, first_alike_more}
use Rattle.ls_automaton.proofs.merging.are_alike.Goals as goal

pub loop-i-preserved : goal.loop-i-preserved
loop-i-preserved c =
    first_alike_more c.args.rows.now c.args.row.now c.args.other.now c.loop-i.i _ _ c.loop-i.invariant
    c.loop-i-test.true (omega (arith, c.loop-i-test.true, c.if-row-other.false))
    (c.is_alike.ensures c.if-not-is_alike.false)

pub returns : goal.returns
returns c = λ same.
    first_alike_all c.args.rows.now c.args.row.now c.args.other.now c.loop-i.i c.if-row-other.false
    c.loop-i-test.false c.loop-i.invariant
