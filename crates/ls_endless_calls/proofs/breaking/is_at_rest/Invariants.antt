-- What the loop `thread` of `is_at_rest` in src/breaking.rt keeps.

use Rattle.std.proofs.Common.{ℕ, ◌<◌}
use Rattle.ls_meaning.specs.Still.{IsStill}
use Rattle.ls_search_laws.specs.Configuration.{stride}
use Rattle.ls_transitions.specs.Tables.{Grows}
use Rattle.ls_transitions.specs.Seen.{table_of}
use Rattle.ls_search.specs.Places.{configuration_of}
use Rattle.ls_endless_calls.proofs.breaking.is_at_rest.Given as goal

abbrev pub invariant-loop-thread : goal.invariant-loop-thread
invariant-loop-thread l = record {
  grows : Grows (table_of l.fn.transitions) (table_of l.transitions);
  still : (t : ℕ) → t < l.thread → IsStill
      (stride (table_of l.fn.transitions).file (configuration_of (table_of l.fn.transitions) l.here) t).did;
}
