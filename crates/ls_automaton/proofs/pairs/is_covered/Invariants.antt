-- What the loop `i` of `is_covered` in src/pairs.rt keeps.

use Rattle.std.specs.List.{AllWithin}
use Rattle.ls_automaton.specs.Held.{Covers, held_of}
use Rattle.ls_automaton.proofs.pairs.is_covered.Given as goal

abbrev pub invariant-loop-i : goal.invariant-loop-i
invariant-loop-i l = AllWithin (λ p. Covers l.rows (held_of p) (held_of l.other) → ⊥) l.pairs 0 l.i
