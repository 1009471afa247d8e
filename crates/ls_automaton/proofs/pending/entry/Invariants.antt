-- What the loop `i` of `entry` in src/pending.rt keeps.

use Rattle.std.proofs.Common.{◌≡◌, drop}
use Rattle.ls_automaton.specs.Held.{entry_at}
use Rattle.ls_automaton.proofs.pending.entry.Given as goal

abbrev pub invariant-loop-i : goal.invariant-loop-i
invariant-loop-i l =
    entry_at (drop l.i l.pending) l.event.thread l.event.call ≡ entry_at l.pending l.event.thread l.event.call
