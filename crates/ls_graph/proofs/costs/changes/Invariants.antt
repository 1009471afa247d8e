-- What the loop `actor` of `changes` in src/costs.rt keeps.
use Rattle.std.proofs.Common.{◌≡◌, ◌≤◌, ◌+◌, drop}
use Rattle.ls_graph.specs.Costs.{changes}
use Rattle.ls_graph.proofs.costs.changes.Given as goal

abbrev pub invariant-loop-actor : goal.invariant-loop-actor
invariant-loop-actor l = record {
  so_far : changes 0 l.steps ≡ l.count + changes l.before (drop l.actor-index l.steps);
  few : l.count ≤ l.actor-index;
}
