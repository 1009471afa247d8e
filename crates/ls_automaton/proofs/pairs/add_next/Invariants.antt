-- What the loop `i` of `add_next` in src/pairs.rt keeps.

use Rattle.std.proofs.Common.{◌++◌, ◌∷◌, [], drop}
use Rattle.std.specs.List.{flat_map}
use Rattle.ls_automaton.specs.Held.{AreSame, further, held_of, helds_of}
use Rattle.ls_automaton.proofs.pairs.add_next.Given as goal

abbrev pub invariant-loop-i : goal.invariant-loop-i
invariant-loop-i l =
    AreSame (helds_of l.next.items ++ flat_map (further (λ q. q ∷ []) (held_of l.pair)) (drop l.i l.row))
    (helds_of l.initial.next.items ++ flat_map (further (λ q. q ∷ []) (held_of l.pair)) l.row)
