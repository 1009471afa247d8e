-- Why `linearity_of_rows` in src/judging.rt keeps its contract.

use Rattle.std.proofs.Common.{inl, inr}
use Rattle.ls_explore_reports.proofs.Known.{by_none, unexplained}
use Rattle.ls_explore_reports.proofs.judging.linearity_of_rows.Goals as goal

pub returns-then-explained : goal.returns-then-explained
returns-then-explained c = λ file program rows h known decides is. inl (decides.0 c.if-explained.true)

pub returns-then-whole : goal.returns-then-whole
returns-then-whole c = λ file program rows h known decides is.
    inr (unexplained c.args.explained rows h c.if-explained.false decides, c.if-whole.true)

pub returns : goal.returns
returns c = λ file program rows h known decides is.
    by_none file program c.args.whole rows h c.args.said known c.if-whole.false
    (unexplained c.args.explained rows h c.if-explained.false decides) is
