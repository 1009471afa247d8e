-- What the loop `i` of `without_call` in src/pending.rt keeps.

use Rattle.std.proofs.Common.{◌≡◌, ◌++◌, drop}
use Rattle.ls_automaton.specs.Held.{ended}
use Rattle.ls_automaton.proofs.pending.without_call.Given as goal

abbrev pub invariant-loop-i : goal.invariant-loop-i
invariant-loop-i l =
    l.noted.items ++ ended l.end (drop l.i l.pending) ≡ ended l.end l.pending
