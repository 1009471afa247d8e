-- What the loop `last` of `costs_so_much` in src/least.rt keeps.
use Rattle.std.proofs.Common.{◌≤◌, ◌<◌, ℕ, map}
use Rattle.ls_graph.specs.Walks.{cost_at}
use Rattle.ls_graph.proofs.least.costs_so_much.Given as goal

abbrev pub invariant-loop-last : goal.invariant-loop-last
invariant-loop-last l = (last : ℕ) → last < l.last →
    l.least ≤ cost_at l.counted (map (λ v. v.items) l.costs) last l.at
