-- What the loop `place` of `cycle_along` in src/cycles.rt keeps.
use Rattle.ls_progress.specs.Cycles.{IsAlong}
use Rattle.ls_progress.specs.Kinds.{kind_of}
use Rattle.ls_progress.proofs.cycles.cycle_along.Given as goal

abbrev pub invariant-loop-place : goal.invariant-loop-place
invariant-loop-place l = IsAlong (kind_of l.wanted.kind l.wanted.thread) l.edges l.start l.at l.path.items l.own
