-- Why `changes_fill` in src/changes.rt keeps its contract.

use Rattle.ls_page.proofs.Filling
use Rattle.ls_page.proofs.changes.changes_fill.Goals as goal

pub returns : goal.returns
returns c = record { lines = Filling.lines_are_the_trace; fill = Filling.changes_fill }
