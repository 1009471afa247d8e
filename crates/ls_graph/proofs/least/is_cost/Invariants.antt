-- What the loop `before` of `is_cost` in src/least.rt keeps.
use Rattle.std.proofs.Common.{◌⊎◌, ◌≤◌, ◌<◌, ℕ, map}
use Rattle.ls_graph.specs.Walks.{cost_along, cost_at}
use Rattle.ls_graph.proofs.least.is_cost.Given as goal

abbrev pub invariant-loop-before : goal.invariant-loop-before
invariant-loop-before l = (before : ℕ) → before < l.before →
    (cost_at l.counted (map (λ v. v.items) l.costs) l.edge.actor l.edge.to ≤
    cost_along l.counted (map (λ v. v.items) l.costs) before l.edge)
    ⊎ (l.least ≤ cost_along l.counted (map (λ v. v.items) l.costs) before l.edge)
