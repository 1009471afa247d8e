-- Why `are_among` in src/pairs.rt keeps its contract.

use Rattle.ls_automaton.proofs.Ending.{first_among_all}
use Rattle.ls_automaton.proofs.pairs.are_among.Goals as goal

pub returns : goal.returns
returns c = λ same. first_among_all c.args.pairs.now c.args.others.now c.loop-i.i
    c.loop-i-test.false c.loop-i.invariant
