-- What the loop `at` of `first_stuck` in src/graphs.rt keeps.
use Rattle.std.proofs.Common.{◌≡◌, ℕ, ◌<◌, Some, true}
use Rattle.std.specs.Prelude.{slice_get}
use Rattle.ls_graph.specs.Found.{HasAny}
use Rattle.ls_transitions.specs.Seen.{table_of}
use Rattle.ls_transitions.specs.Tables.{Grows}
use Rattle.ls_search.specs.declared.space.Kept.{Kept}
use Rattle.ls_search.specs.Answers.{IsStuck}
use Rattle.ls_search.specs.Places.{configuration_of}
use Rattle.ls_search.proofs.graphs.first_stuck.Given as goal

abbrev pub invariant-loop-at : goal.invariant-loop-at
invariant-loop-at l = record {
  grows : Grows (table_of l.fn.transitions) (table_of l.transitions);
  none : (at : ℕ) (n : Kept) → at < l.at → slice_get l.closing.graph.found.nodes.items at ≡ Some n →
      slice_get l.closing.looked.items at ≡ Some true →
      IsStuck (table_of l.fn.transitions).file (configuration_of (table_of l.fn.transitions) n.place) →
      HasAny l.closing.graph.edges.items at;
}
