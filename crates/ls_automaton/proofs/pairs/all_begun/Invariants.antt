-- What the loop `i` of `all_begun` in src/pairs.rt keeps.

use Rattle.std.proofs.Common.{◌≡◌, ◌++◌, drop}
use Rattle.std.specs.List.{flat_map}
use Rattle.ls_automaton.specs.Held.{begins, helds_of}
use Rattle.ls_automaton.proofs.pairs.all_begun.Given as goal

abbrev pub invariant-loop-i : goal.invariant-loop-i
invariant-loop-i l =
    helds_of l.found.items ++ flat_map (begins l.call) (helds_of (drop l.i l.pairs))
    ≡ flat_map (begins l.call) (helds_of l.pairs)
