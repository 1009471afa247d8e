-- What `comes_to_break` in src/breaking.rt keeps.

use Rattle.ls_transitions.specs.Seen.{table_of}
use Rattle.ls_endless_calls.specs.Breaking.{IsAhead}
use Rattle.ls_endless_calls.proofs.breaking.comes_to_break.Given as goal

abbrev pub invariant-loop : goal.invariant-loop
invariant-loop l = IsAhead l.threads (table_of l.fn.transitions) l.place (table_of l.transitions) l.here
