-- What the loop `rest` of `read_reports` in src/reading.rt keeps, and why the loop ends.

use Rattle.std.proofs.Common.{length, map}
use denote.Text.{Utf8}
use denote.Shadow.{shadow}
use Rattle.ls_find_reports.specs.Reports.{plain_report}
use Rattle.ls_find_reports.proofs.Listed.{IsReading}
use Rattle.ls_find_reports.proofs.reading.read_reports.Given as goal

abbrev pub invariant-loop-rest : goal.invariant-loop-rest
invariant-loop-rest l = record {
  text : shadow (Utf8 l.rest);
  reading : IsReading l.text l.rest (map plain_report l.reports.items);
}

abbrev pub decreases-loop-rest : goal.decreases-loop-rest
decreases-loop-rest l = length l.rest
