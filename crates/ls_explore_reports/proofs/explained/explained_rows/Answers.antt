-- Why `explained_rows` in src/explained.rt keeps its loop `at`.

use Rattle.std.proofs.Common.{Decides, subst, sym, take, ◌+◌}
use Rattle.std.specs.List.{AllZip}
use Rattle.ls_explore.specs.Rows.{Told}
use Rattle.ls_explore_reports.specs.Rows.{RowsExplain, histories}
use Rattle.ls_explore_reports.proofs.Collecting.{decide_alike, flagged_more}
use Rattle.ls_explore_reports.proofs.explained.explained_rows.Goals as goal

pub loop-at-preserved : goal.loop-at-preserved
loop-at-preserved c =
    subst (AllZip (λ (r : Told) b. Decides b (RowsExplain c.args.rows.now r.history))
    (take (c.loop-at.at + 1) c.args.rows.now)) (sym c.in_ok-push.ensures.items)
    (flagged_more (λ (r : Told) b. Decides b (RowsExplain c.args.rows.now r.history)) c.args.rows.now
    c.loop-at.flags.items c.loop-at.at c.index-rows-at.result c.explain.result c.loop-at-test.true c.index-rows-at.is
    c.loop-at.invariant
    (decide_alike c.explain.result c.in_ok-runs.runs (histories c.args.rows.now) c.history.result.now
    c.index-rows-at.result.history c.history.ensures c.in_ok-runs.ensures c.explain.ensures))
