-- What the loop `at` of `cost_at_least` in src/least.rt keeps.
use Rattle.std.proofs.Common.{◌≡◌, ◌⊎◌, ◌≤◌, ◌<◌, ℕ, Some, map, true}
use Rattle.std.specs.Prelude.{slice_get}
use Rattle.ls_graph.specs.Walks.{cost_at}
use Rattle.ls_graph.proofs.least.cost_at_least.Given as goal

abbrev pub invariant-loop-at : goal.invariant-loop-at
invariant-loop-at l = (at : ℕ) → at < l.at → (slice_get l.marks at ≡ Some true)
    ⊎ ((last : ℕ) → last < l.actors → l.least ≤ cost_at l.counted (map (λ v. v.items) l.costs) last at)
