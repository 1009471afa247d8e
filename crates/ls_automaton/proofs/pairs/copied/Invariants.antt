-- What the loop `i` of `copied` in src/pairs.rt keeps.

use Rattle.std.proofs.Common.{◌≡◌, ◌++◌, drop}
use Rattle.ls_automaton.proofs.pairs.copied.Given as goal

abbrev pub invariant-loop-i : goal.invariant-loop-i
invariant-loop-i l =
    l.pending.items ++ drop l.i l.pair.pending.items ≡ l.pair.pending.items
