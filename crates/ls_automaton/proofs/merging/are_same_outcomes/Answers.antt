-- Why `are_same_outcomes` in src/merging.rt keeps its contract and its loop `i`.

use Rattle.std.proofs.Common.{arith}
use Rattle.ls_automaton.proofs.Lists.{first_same_all, first_same_more}
use Rattle.ls_automaton.proofs.merging.are_same_outcomes.Goals as goal

pub loop-i-preserved : goal.loop-i-preserved
loop-i-preserved c =
    first_same_more c.args.row.now c.args.other.now c.loop-i.i _ _ c.loop-i.invariant c.loop-i-test.true
    (omega (arith, c.loop-i-test.true, c.if-row-other.false))
    (c.is_same_outcome.ensures c.if-not-is_same_outcome.false)

pub returns : goal.returns
returns c = λ same.
    first_same_all c.args.row.now c.args.other.now c.loop-i.i c.if-row-other.false c.loop-i-test.false
    c.loop-i.invariant
