-- Why `judge` in src/page_judging.rt keeps its contract.

use Rattle.std.proofs.Common.{◌∙◌, ap}
use Rattle.std.proofs.lemmas.Result.{err_from_is_err_and}
use Rattle.ls_commands.specs.Check.{judgement_text}
use Rattle.ls_commands.specs.Paged.{JudgesTo}
use Rattle.ls_commands.proofs.PageJudgingLemmas.{history_reads, order_fails, verdict_given}
use Rattle.ls_commands.proofs.page_judging.judge.Goals as goal

pub returns-in_err-history : goal.returns-in_err-history
returns-in_err-history c =
    let p = err_from_is_err_and c.from_residual.result c.from_residual.ensures.1 in
    rw (p.1, p.2) (history_reads (JudgesTo c.args.history.now c.args.order.now) c.in_err-history.field-0.0 c.requires.0
    (c.in_err-history.ensures.accepts c.requires.0 c.requires.1.history c.requires.1.lines))

pub returns-in_err-order : goal.returns-in_err-order
returns-in_err-order c =
    let p = err_from_is_err_and c.from_residual-in_err-order.result c.from_residual-in_err-order.ensures.1 in
    rw (p.1, p.2) (order_fails c.args.history.now c.args.order.now c.in_ok-history.history c.in_err-order.field-0.0
    c.in_ok-history.ensures.found c.in_err-order.ensures)

pub returns : goal.returns
returns c =
    verdict_given c.args.history.now c.args.order.now c.in_ok-history.history c.in_ok-order.order _
    c.in_ok-history.ensures.found c.in_ok-order.ensures (c.in_ok-verdict_text.ensures ∙
    ap judgement_text c.in_ok-verdict.ensures.exact)
