-- What the loop `thread` of `number_works` in src/numbering.rt keeps.

use Rattle.std.proofs.Common.{◌≡◌, length, map}
use Rattle.ls_source.specs.SeenThread.{thread_of}
use Rattle.ls_transitions.specs.Tables.{Grows}
use Rattle.ls_transitions.specs.Seen.{table_of}
use Rattle.ls_search.specs.Runs.{AreNumbered}
use Rattle.ls_search.proofs.numbering.number_works.Given as goal

abbrev pub invariant-loop-thread : goal.invariant-loop-thread
invariant-loop-thread l = record {
  numbered : AreNumbered (table_of l.transitions) l.works.items (map thread_of l.threads);
  width : length l.works.items ≡ l.thread-index;
  grows : Grows (table_of l.fn.transitions) (table_of l.transitions);
}
