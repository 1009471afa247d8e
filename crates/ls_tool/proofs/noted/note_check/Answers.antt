-- Why `note_check` in src/noted.rt keeps its contract.

use Rattle.std.proofs.Common.{◌∙◌}
use Rattle.std.proofs.lemmas.Result.{err_from_is_err_and}
use Rattle.ls_tool.proofs.CheckNotes.{history_fails, note_given, order_fails}
use Rattle.ls_tool.proofs.noted.note_check.Goals as goal

pub returns-in_err-history-2 : goal.returns-in_err-history-2
returns-in_err-history-2 c =
    let p = err_from_is_err_and c.from_residual-in_err-history-2.result c.from_residual-in_err-history-2.ensures.1 in
    rw (p.1, p.2) (history_fails c.args.history.now c.args.order.now c.as_str.result.now c.in_err-history-2.field-0.0
    (c.as_str.ensures.value ∙ c.in_ok-history.ensures) c.in_err-history-2.ensures.fault)

pub returns-in_err-order : goal.returns-in_err-order
returns-in_err-order c =
    let p = err_from_is_err_and c.from_residual-in_err-order.result c.from_residual-in_err-order.ensures.1 in
    rw (p.1, p.2) (order_fails c.args.history.now c.args.order.now c.as_str.result.now c.in_ok-history-2.history
    c.in_err-order.field-0.0 (c.as_str.ensures.value ∙ c.in_ok-history.ensures)
    c.in_ok-history-2.ensures.found c.in_err-order.ensures)

pub returns : goal.returns
returns c =
    note_given c.args.history.now c.args.order.now c.as_str.result.now c.in_ok-history-2.history c.in_ok-order.order
    _ _ (c.as_str.ensures.value ∙ c.in_ok-history.ensures)
    c.in_ok-history-2.ensures.found c.in_ok-order.ensures c.in_ok-verdict.ensures.exact c.in_ok-order_note.ensures
