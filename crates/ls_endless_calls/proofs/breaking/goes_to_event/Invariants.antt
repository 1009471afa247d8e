-- What `goes_to_event` in src/breaking.rt keeps.

use Rattle.std.proofs.Common.{ℕ}
use Rattle.ls_transitions.specs.Seen.{table_of}
use Rattle.ls_endless_calls.specs.Breaking.{IsAhead}
use Rattle.ls_endless_calls.proofs.breaking.goes_to_event.Given as goal

abbrev pub invariant-loop : goal.invariant-loop
invariant-loop l =
    (threads : ℕ) → IsAhead threads (table_of l.fn.transitions) l.fn.here (table_of l.transitions) l.here
