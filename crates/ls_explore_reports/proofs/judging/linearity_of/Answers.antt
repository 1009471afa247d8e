-- Why `linearity_of` in src/judging.rt keeps its contract.

use Rattle.std.proofs.Common.{◌∙◌, refl, sym}
use Rattle.ls_explore_reports.specs.Rows.{histories}
use Rattle.ls_explore_reports.proofs.Collecting.{decide_alike}
use Rattle.ls_explore_reports.proofs.Known.{by_judge}
use Rattle.ls_explore_reports.proofs.judging.linearity_of.Goals as goal

pub returns-then-is_known : goal.returns-then-is_known
returns-then-is_known c = λ file program rows judges once runs.
    by_judge file program c.args.whole rows c.args.history.now c.in_ok-said.said
    (sym c.is_known.ensures ∙ c.if-is_known.true)
    (c.in_ok-said.ensures file program judges once)

pub returns : goal.returns
returns c = λ file program rows judges once runs.
    c.linearity_of_rows.ensures file program rows c.args.history.now
    (sym c.is_known.ensures ∙ c.if-is_known.false)
    (decide_alike c.explain.result c.args.runs.now (histories rows) c.args.history.now c.args.history.now refl runs
    c.explain.ensures)
    (c.in_ok-said.ensures file program judges once)
