-- What the loop `thread` of `all_go` in src/cycles.rt keeps.
use Rattle.std.proofs.Common.{◌<◌, ◌≤◌, ◌⊎◌, ℕ}
use Rattle.std.specs.Prelude.{Contains}
use Rattle.ls_graph.specs.Found.{HasNoneBy}
use Rattle.ls_progress.proofs.cycles.all_go.Given as goal

abbrev pub invariant-loop-thread : goal.invariant-loop-thread
invariant-loop-thread l = (u : ℕ) → 1 ≤ u → u < l.thread → Contains l.cycle u ⊎ HasNoneBy l.edges l.at u
