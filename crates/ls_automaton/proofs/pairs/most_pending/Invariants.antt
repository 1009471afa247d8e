-- What the loop `i` of `most_pending` in src/pairs.rt keeps.

use Rattle.std.proofs.Common.{◌≤◌, Contains, length, take}
use Rattle.ls_automaton.specs.Held.{Held, helds_of}
use Rattle.ls_automaton.proofs.pairs.most_pending.Given as goal

abbrev pub invariant-loop-i : goal.invariant-loop-i
invariant-loop-i l = (p : Held) → Contains (helds_of (take l.i l.pairs)) p → length p.pending ≤ l.most
