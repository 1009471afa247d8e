-- What the loop `at` of `first_left` in src/listing.rt keeps.

use Rattle.ls_transitions.specs.Tables.{Grows}
use Rattle.ls_transitions.specs.Seen.{table_of}
use Rattle.ls_endless_calls.specs.Breaking.{AreFine}
use Rattle.ls_endless_calls.proofs.listing.first_left.Given as goal

abbrev pub invariant-loop-at : goal.invariant-loop-at
invariant-loop-at l = record {
  grows : Grows (table_of l.fn.transitions) (table_of l.transitions);
  fine : AreFine (table_of l.fn.transitions).file l.states.threads (table_of l.fn.transitions) l.states.excused.now
      l.states.seen.now l.states.nodes.now l.at;
}
