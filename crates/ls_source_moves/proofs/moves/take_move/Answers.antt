-- Why `take_move` in src/moves.rt keeps its contract and what it calls with.

use Rattle.std.proofs.Common.{arith}
use Rattle.ls_source_moves.proofs.moves.take_move.Goals as goal

pub evaluate-requires : goal.evaluate-requires
evaluate-requires c = omega (arith, c.requires)

pub argue-requires : goal.argue-requires
argue-requires c = omega (arith, c.requires)

pub open-requires : goal.open-requires
open-requires c = c.requires

pub execute-requires : goal.execute-requires
execute-requires c = c.requires

pub loops-requires : goal.loops-requires
loops-requires c = c.requires

pub give-requires : goal.give-requires
give-requires c = c.requires

pub end_anyhow-requires : goal.end_anyhow-requires
end_anyhow-requires c = omega (arith, c.requires)

pub returns-in-Evaluates-clause-ok : goal.returns-in-Evaluates-clause-ok
returns-in-Evaluates-clause-ok c = rw (← c.in-Evaluates.ensures.value) (rw c.deref.ensures.value at c.evaluate.ensures)

pub returns-in_ok-argue-in-Argues-clause-ok : goal.returns-in_ok-argue-in-Argues-clause-ok
returns-in_ok-argue-in-Argues-clause-ok c = rw (← c.in-Argues.ensures.value)
    (rw c.deref-in-Argues.ensures.value at c.in_ok-argue-in-Argues.ensures.ok)

pub returns-in-Invokes-clause-ok : goal.returns-in-Invokes-clause-ok
returns-in-Invokes-clause-ok c = rw (← c.in-Invokes.ensures.value) c.invoke.ensures

pub returns-in_ok-open-in-Opens-clause-ok : goal.returns-in_ok-open-in-Opens-clause-ok
returns-in_ok-open-in-Opens-clause-ok c = rw (← c.in-Opens.ensures.value) c.in_ok-open-in-Opens.ensures.ok

pub returns-in-Executes-clause-ok : goal.returns-in-Executes-clause-ok
returns-in-Executes-clause-ok c = rw (← c.in-Executes.ensures.value)
    (rw c.deref-in-Executes.ensures.value at c.execute.ensures)

pub returns-in-Loops-clause-ok : goal.returns-in-Loops-clause-ok
returns-in-Loops-clause-ok c = rw (← c.in-Loops.ensures.value)
    (rw c.deref-in-Loops.ensures.value at c.loops.ensures)

pub returns-in_ok-give-in-Gives-clause-ok : goal.returns-in_ok-give-in-Gives-clause-ok
returns-in_ok-give-in-Gives-clause-ok c = rw (← c.in-Gives.ensures.value)
    (rw c.deref-in-Gives.ensures.value at c.in_ok-give-in-Gives.ensures.ok)

pub returns-in-Ends-clause-ok : goal.returns-in-Ends-clause-ok
returns-in-Ends-clause-ok c = rw (← c.in-Ends.ensures.value) c.end_anyhow.ensures
