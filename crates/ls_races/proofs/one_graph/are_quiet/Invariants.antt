-- What the loop `node` of `are_quiet` in src/one_graph.rt keeps.
use Rattle.std.proofs.Common.{◌≡◌, ◌<◌, ℕ, [], Some, map}
use Rattle.std.specs.Prelude.{slice_get}
use Rattle.ls_search.specs.Places.{configuration_of}
use Rattle.ls_search.specs.declared.space.Kept.{Kept}
use Rattle.ls_transitions.specs.Seen.{table_of}
use Rattle.ls_transitions.specs.Tables.{Grows}
use Rattle.ls_races.specs.Met.{MeetsUntold}
use Rattle.ls_races.specs.Volatile.{volatile_by}
use Rattle.ls_races.proofs.one_graph.are_quiet.Given as goal

abbrev pub invariant-loop-node : goal.invariant-loop-node
invariant-loop-node l = record {
  grows : Grows (table_of l.fn.transitions) (table_of l.transitions);
  quiet : (at : ℕ) (n : Kept) → at < l.node-index → slice_get l.nodes at ≡ Some n →
      MeetsUntold (volatile_by (map (λ v. v.items) l.scope.classes.now)) [] (table_of l.fn.transitions).file
      (configuration_of (table_of l.fn.transitions) n.place) →
      ⊥;
}
