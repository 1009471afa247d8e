-- What the loop `i` of `with_effect` in src/pending.rt keeps.

use Rattle.std.proofs.Common.{◌≡◌, ◌++◌, drop}
use Rattle.ls_automaton.specs.Held.{taken}
use Rattle.ls_automaton.proofs.pending.with_effect.Given as goal

abbrev pub invariant-loop-i : goal.invariant-loop-i
invariant-loop-i l =
    l.noted.items ++ taken l.end (drop l.i l.pending) ≡ taken l.end l.pending
