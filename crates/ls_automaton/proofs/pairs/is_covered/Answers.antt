-- Why `is_covered` in src/pairs.rt keeps its contract.

use Rattle.std.proofs.Common.{refl}
use Rattle.ls_automaton.specs.Held.{held_of}
use Rattle.ls_automaton.proofs.Dropped.{covered_none}
use Rattle.ls_automaton.proofs.Entries.{not_both}
use Rattle.ls_automaton.proofs.pairs.is_covered.Goals as goal

pub returns : goal.returns
returns c = (
  λ found. absurd (not_both found refl),
  λ covered. absurd (covered_none c.args.rows.now c.args.pairs.now (held_of c.args.other.now) c.loop-i.i
      c.loop-i-test.false c.loop-i.invariant covered),
)
