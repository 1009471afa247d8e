-- What the loop `row` of `find_row` in src/thread.rt keeps.

use Rattle.std.proofs.Common.{◌≡◌, drop}
use Rattle.ls_code.specs.Throws.{find_row}
use Rattle.ls_machine_threads.proofs.thread.find_row.Given as goal

abbrev pub invariant-loop-row : goal.invariant-loop-row
invariant-loop-row l = find_row (drop l.row-index l.rows) l.place ≡ find_row l.rows l.place
