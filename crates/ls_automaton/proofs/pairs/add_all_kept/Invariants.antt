-- What the loop `i` of `add_all_kept` in src/pairs.rt keeps.

use Rattle.std.proofs.Common.{◌≡◌, ◌++◌, drop}
use Rattle.std.specs.List.{flat_map}
use Rattle.ls_automaton.specs.Held.{helds_of, kept}
use Rattle.ls_automaton.proofs.pairs.add_all_kept.Given as goal

abbrev pub invariant-loop-i : goal.invariant-loop-i
invariant-loop-i l = helds_of l.found.items ++ flat_map (kept l.end) (helds_of (drop l.i l.layer))
    ≡ helds_of l.initial.found.items ++ flat_map (kept l.end) (helds_of l.layer)
