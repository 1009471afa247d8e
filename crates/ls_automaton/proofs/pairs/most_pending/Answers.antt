-- Why `most_pending` in src/pairs.rt keeps its contract and its loop `i`.

use Rattle.std.proofs.Common.{◌≤◌, arith, length, subst}
use Rattle.ls_automaton.specs.declared.pairs.Pair.{Pair}
use Rattle.ls_automaton.proofs.Layers.{most_all, most_more}
use Rattle.ls_automaton.proofs.pairs.most_pending.Goals as goal

pub loop-i-preserved : goal.loop-i-preserved
loop-i-preserved c =
    most_more c.args.pairs.now c.loop-i.i c.greatest-most.result c.index-pairs-i.result c.loop-i-test.true
    (λ p there. omega (arith, c.loop-i.invariant p there, c.greatest-most.ensures.0))
    (subst (λ (x : Pair). length x.pending.items ≤ c.greatest-most.result) c.index-pairs-i.is
    (omega (arith, c.pending_count.ensures, c.greatest-most.ensures.1)))

pub returns : goal.returns
returns c = most_all c.args.pairs.now c.loop-i.i c.loop-i.most c.loop-i-test.false c.loop-i.invariant
