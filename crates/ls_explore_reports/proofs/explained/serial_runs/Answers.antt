-- Why `serial_runs` in src/explained.rt keeps its loop `at`.

use Rattle.std.proofs.Common.{◌∙◌, ap}
use Rattle.ls_explore.specs.Rows.{Told}
use Rattle.ls_explore_reports.proofs.Collecting.{alike_more}
use Rattle.ls_explore_reports.proofs.explained.serial_runs.Goals as goal

pub loop-at-preserved : goal.loop-at-preserved
loop-at-preserved c =
    alike_more c.loop-at.runs c.add.new.self c.args.rows.now c.loop-at.at c.index-rows-at.result c.history.result.now
    c.loop-at-test.true (c.history.ensures ∙ ap (λ (r : Told). r.history) c.index-rows-at.is) c.loop-at.invariant
    c.in_ok-add.ensures.added
