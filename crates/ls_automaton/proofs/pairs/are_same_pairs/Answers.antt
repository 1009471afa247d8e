-- Why `are_same_pairs` in src/pairs.rt keeps its contract.

use Rattle.ls_automaton.specs.Held.{helds_of}
use Rattle.ls_automaton.proofs.Ending.{same_judge}
use Rattle.ls_automaton.proofs.pairs.are_same_pairs.Goals as goal

pub returns : goal.returns
returns c = λ same rows.
    same_judge rows (helds_of c.args.pairs.now) (helds_of c.args.others.now)
    (c.are_among.ensures c.if-not-are_among.false) (c.are_among-2.ensures same)
