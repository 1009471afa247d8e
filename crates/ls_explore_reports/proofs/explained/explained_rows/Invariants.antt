-- What the loop `at` of `explained_rows` in src/explained.rt keeps.

use Rattle.std.proofs.Common.{Decides, take}
use Rattle.std.specs.List.{AllZip}
use Rattle.ls_explore.specs.Rows.{Told}
use Rattle.ls_explore_reports.specs.Rows.{RowsExplain}
use Rattle.ls_explore_reports.proofs.explained.explained_rows.Given as goal

abbrev pub invariant-loop-at : goal.invariant-loop-at
invariant-loop-at l =
    AllZip (λ (r : Told) b. Decides b (RowsExplain l.rows r.history)) (take l.at l.rows) l.flags.items
