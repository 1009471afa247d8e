-- Why `are_merged` in src/merging.rt keeps its contract and its loop `n`.

use Rattle.std.proofs.Common.{arith, subst}
use Rattle.ls_automaton.specs.Merged.{AreAlikeIn}
use Rattle.ls_automaton.proofs.Joined.{first_merged_all, first_merged_more}
use Rattle.ls_automaton.proofs.merging.are_merged.Goals as goal

pub loop-n-preserved : goal.loop-n-preserved
loop-n-preserved c =
    first_merged_more c.args.rows.now c.args.merged.now c.loop-n.n c.index-rows-n.result c.index-merged-n.result
    c.loop-n.invariant c.loop-n-test.true (omega (arith, c.loop-n-test.true, c.if-rows-merged.false))
    c.index-rows-n.is c.index-merged-n.is
    (subst (λ l. AreAlikeIn c.args.merged.now l c.index-merged-n.result.items) c.as_slice.ensures.value
    (subst (AreAlikeIn c.args.merged.now c.as_slice.result.now) c.as_slice-in-loop-n.ensures.value
    (c.are_alike.ensures c.if-not-are_alike.false)))

pub returns : goal.returns
returns c = λ same.
    first_merged_all c.args.rows.now c.args.merged.now c.loop-n.n c.if-rows-merged.false c.loop-n-test.false
    c.loop-n.invariant
