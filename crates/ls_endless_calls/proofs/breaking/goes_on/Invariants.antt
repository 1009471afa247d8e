-- What the loop `thread` of `goes_on` in src/breaking.rt keeps.

use Rattle.ls_transitions.specs.Seen.{table_of}
use Rattle.ls_endless_calls.specs.Breaking.{IsAhead}
use Rattle.ls_endless_calls.proofs.breaking.goes_on.Given as goal

abbrev pub invariant-loop-thread : goal.invariant-loop-thread
invariant-loop-thread l =
    IsAhead l.threads (table_of l.fn.transitions) l.fn.here (table_of l.transitions) l.here
