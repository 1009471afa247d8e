-- What the loop `row` of `gathered` in src/gathering.rt keeps.

use Rattle.std.proofs.Common.{◌≡◌, ◌+◌, drop, map}
use Rattle.ls_tallies.specs.Places.{IsIndexed, rows_of}
use Rattle.ls_tallies.specs.Plain.{plain_row}
use Rattle.ls_tallies.specs.Tallies.{gathered, gathered_onto, total_of}
use Rattle.ls_tallies.proofs.gathering.gathered.Given as goal

abbrev pub invariant-loop-row : goal.invariant-loop-row
invariant-loop-row l = record {
  indexed : IsIndexed l.all;
  rows : gathered_onto (rows_of l.all) (map plain_row (drop l.row-index l.rows)) ≡ gathered (map plain_row l.rows);
  total : total_of (rows_of l.all) + total_of (map plain_row (drop l.row-index l.rows)) ≡ total_of
      (map plain_row l.rows);
}
