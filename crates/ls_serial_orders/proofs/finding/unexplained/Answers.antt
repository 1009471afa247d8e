-- Why `unexplained` in src/finding.rt keeps its contract.

use Rattle.ls_serial_orders.proofs.finding.unexplained.Goals as goal

pub returns-then-table : goal.returns-then-table
returns-then-table c = (c.requires.known.long c.if-table.true, c.requires.within)
