-- What the loop `i` of `are_same_entries` in src/stores.rt keeps.

use Rattle.std.proofs.Common.{◌≡◌}
use Rattle.ls_transitions.proofs.stores.are_same_entries.Given as goal

abbrev pub invariant-loop-i : goal.invariant-loop-i
invariant-loop-i l = l.i-iterator ≡ l.rest → l.items.entries ≡ l.others.entries
