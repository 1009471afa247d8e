-- Why `check` in src/checking.rt keeps its contract.

use Rattle.std.proofs.Common.{◌∙◌, ap}
use Rattle.std.proofs.lemmas.Result.{err_from_is_err_and}
use Rattle.ls_commands.specs.Check.{judgement_text}
use Rattle.ls_commands.proofs.CheckLemmas.{history_fails, order_fails, verdict_given}
use Rattle.ls_commands.proofs.checking.check.Goals as goal

pub returns-in_err-history-2 : goal.returns-in_err-history-2
returns-in_err-history-2 c =
    let p = err_from_is_err_and c.from_residual-in_err-history-2.result c.from_residual-in_err-history-2.ensures.1 in
    rw (p.1, p.2) (history_fails c.args.history.now c.args.order.now c.as_str.result.now c.in_err-history-2.field-0.0
    (c.as_str.ensures.value ∙ c.in_ok-history.ensures) c.in_err-history-2.ensures.fault)

pub returns-in_err-order : goal.returns-in_err-order
returns-in_err-order c =
    let p = err_from_is_err_and c.from_residual-in_err-order.result c.from_residual-in_err-order.ensures.1 in
    rw (p.1, p.2) (order_fails c.args.history.now c.args.order.now c.as_str.result.now c.in_ok-history-2.history
    c.in_err-order.field-0.0 (c.as_str.ensures.value ∙ c.in_ok-history.ensures)
    c.in_ok-history-2.ensures.found c.in_err-order.ensures)

pub returns : goal.returns
returns c =
    verdict_given c.args.history.now c.args.order.now c.as_str.result.now c.in_ok-history-2.history c.in_ok-order.order
    _ (c.as_str.ensures.value ∙ c.in_ok-history.ensures)
    c.in_ok-history-2.ensures.found c.in_ok-order.ensures (c.in_ok-verdict_text.ensures ∙
    ap judgement_text c.in_ok-verdict.ensures.exact)
