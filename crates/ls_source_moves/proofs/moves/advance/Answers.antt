-- Why `advance` in src/moves.rt keeps its clause `ok`.

use Rattle.ls_source_moves.proofs.moves.advance.Goals as goal

pub returns-in-Evaluates-clause-ok : goal.returns-in-Evaluates-clause-ok
returns-in-Evaluates-clause-ok c = rw c.in-Evaluates.is (rw (c.reserve.ensures.items, c.deref.ensures.value) at
    c.evaluate.ensures)

pub returns-in-Executes-clause-ok : goal.returns-in-Executes-clause-ok
returns-in-Executes-clause-ok c =
    rw c.in-Executes.is (rw (c.reserve.ensures.items, c.deref-in-Executes.ensures.value) at
    c.execute.ensures)

pub returns-in-Loops-clause-ok : goal.returns-in-Loops-clause-ok
returns-in-Loops-clause-ok c = rw c.in-Loops.is (rw (c.reserve.ensures.items, c.deref-in-Loops.ensures.value) at
    c.loops.ensures)
