-- What the loop `row` of `total` in src/totals.rt keeps.

use Rattle.std.proofs.Common.{◌≡◌, ◌+◌, drop, map}
use Rattle.ls_tallies.specs.Plain.{plain_row}
use Rattle.ls_tallies.specs.Tallies.{total_of}
use Rattle.ls_tallies.proofs.totals.total.Given as goal

abbrev pub invariant-loop-row : goal.invariant-loop-row
invariant-loop-row l = l.total + total_of (map plain_row (drop l.row-index l.rows)) ≡ total_of (map plain_row l.rows)
