-- What the loop `edge` of `loud_of` in src/sounding.rt keeps.
use Rattle.ls_transitions.specs.Seen.{table_of}
use Rattle.ls_transitions.specs.Tables.{Grows}
use Rattle.ls_spinning.specs.States.{AreLoud, places_of}
use Rattle.ls_spinning.proofs.sounding.loud_of.Given as goal

abbrev pub invariant-loop-edge : goal.invariant-loop-edge
invariant-loop-edge l = record {
  grows : Grows (table_of l.fn.transitions) (table_of l.transitions);
  loud : AreLoud (table_of l.fn.transitions).file
      (places_of (table_of l.fn.transitions) l.graph.found.nodes.items) l.graph.edges.items l.edge-index l.marks.items;
}
