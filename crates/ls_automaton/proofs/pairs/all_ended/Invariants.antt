-- What the loop `left` of `all_ended` in src/pairs.rt keeps, and why it ends.

use Rattle.std.proofs.Common.{◌++◌, ◌+◌}
use Rattle.std.specs.List.{flat_map}
use Rattle.ls_automaton.specs.Held.{AreSame, ends, helds_of}
use Rattle.ls_automaton.proofs.pairs.all_ended.Given as goal

abbrev pub invariant-loop-left : goal.invariant-loop-left
invariant-loop-left l = AreSame (helds_of l.found.items ++ flat_map (ends l.rows l.left l.end) (helds_of l.layer.items))
    (flat_map (ends l.rows (l.most + 1) l.end) (helds_of l.pairs))

abbrev pub decreases-loop-left : goal.decreases-loop-left
decreases-loop-left l = l.left
