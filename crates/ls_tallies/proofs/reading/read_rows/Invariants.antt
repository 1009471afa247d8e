-- What the loop `line` of `read_rows` in src/reading.rt keeps, and why the loop ends.

use Rattle.std.proofs.Common.{length, map}
use denote.Text.{Utf8}
use denote.Shadow.{shadow}
use Rattle.ls_tallies.specs.Plain.{plain_row}
use Rattle.ls_tallies.proofs.Listed.{IsReading}
use Rattle.ls_tallies.proofs.reading.read_rows.Given as goal

abbrev pub invariant-loop-line : goal.invariant-loop-line
invariant-loop-line l = record {
  text : shadow (Utf8 l.rest);
  reading : IsReading l.text l.rest (map plain_row l.rows.items);
}

abbrev pub decreases-loop-line : goal.decreases-loop-line
decreases-loop-line l = length l.rest
