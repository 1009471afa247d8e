-- Why `spread_all` in src/leading.rt keeps its contract and its loop.

use Rattle.ls_spinning.proofs.leading.spread_all.Goals as goal

pub loop-preserved : goal.loop-preserved
loop-preserved c = λ loud was. c.in_ok-spread.ensures loud (c.loop.invariant loud was)

pub returns-then-not-branch : goal.returns-then-not-branch
returns-then-not-branch c = λ loud was. c.in_ok-spread.ensures loud (c.loop.invariant loud was)
