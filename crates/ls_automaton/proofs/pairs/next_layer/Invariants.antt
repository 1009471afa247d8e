-- What the loop `i` of `next_layer` in src/pairs.rt keeps.

use Rattle.std.proofs.Common.{[], take}
use Rattle.ls_automaton.specs.Held.{helds_of}
use Rattle.ls_automaton.specs.Layers.{IsLayered}
use Rattle.ls_automaton.proofs.pairs.next_layer.Given as goal

abbrev pub invariant-loop-i : goal.invariant-loop-i
invariant-loop-i l = IsLayered l.rows l.end (helds_of (take l.i l.layer)) [] (helds_of l.initial.found.items)
    (helds_of l.next.items) (helds_of l.found.items)
