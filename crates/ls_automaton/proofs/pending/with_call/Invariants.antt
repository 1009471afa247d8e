-- What the loop `i` of `with_call` in src/pending.rt keeps.

use Rattle.std.proofs.Common.{◌≡◌, ◌∷◌, ◌++◌, drop}
use Rattle.ls_automaton.proofs.Entries.{back_of, front_of}
use Rattle.ls_automaton.proofs.pending.with_call.Given as goal

abbrev pub invariant-loop-i : goal.invariant-loop-i
invariant-loop-i l =
    l.noted.items ++ front_of l.call (drop l.i l.pending) ≡ front_of l.call l.pending

abbrev pub invariant-loop-i-2 : goal.invariant-loop-i-2
invariant-loop-i-2 l =
    l.noted.items ++ back_of l.call (drop l.i l.pending) ≡
    front_of l.call l.pending ++ l.call ∷ back_of l.call l.pending
