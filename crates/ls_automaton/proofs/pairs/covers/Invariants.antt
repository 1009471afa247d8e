-- What the loop `i` of `covers` in src/pairs.rt keeps.

use Rattle.std.specs.List.{AllWithin}
use Rattle.ls_automaton.specs.Held.{IsTaking, held_of}
use Rattle.ls_automaton.proofs.pairs.covers.Given as goal

abbrev pub invariant-loop-i : goal.invariant-loop-i
invariant-loop-i l = AllWithin (λ o. IsTaking (held_of l.pair) o (held_of l.other) → ⊥) l.row 0 l.i
