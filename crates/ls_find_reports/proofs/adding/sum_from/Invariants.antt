-- What the loop `at` of `sum_from` in src/adding.rt keeps.

use Rattle.std.proofs.Common.{drop, map}
use Rattle.ls_find_reports.specs.Reports.{AreFigures, plain_report}
use Rattle.ls_find_reports.proofs.Additions.{IsOnWay}
use Rattle.ls_find_reports.proofs.adding.sum_from.Given as goal

abbrev pub invariant-loop-at : goal.invariant-loop-at
invariant-loop-at l = record {
  sum : AreFigures l.sum.figures;
  way : IsOnWay (plain_report l.first) (map plain_report l.more) (plain_report l.sum)
      (map plain_report (drop l.at l.more));
}
