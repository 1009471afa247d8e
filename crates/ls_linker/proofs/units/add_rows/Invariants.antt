-- What the loop `row` of `add_rows` in src/units.rt keeps.

use Rattle.std.proofs.Common.{◌≡◌, ◌++◌, map, take}
use Rattle.ls_emit.specs.Units.{moved_row}
use Rattle.ls_linker.proofs.units.add_rows.Given as goal

abbrev pub invariant-loop-row : goal.invariant-loop-row
invariant-loop-row l = l.handlers.items ≡ l.fn.handlers.items ++ map (moved_row l.start) (take l.row-index l.rows)
