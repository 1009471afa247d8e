-- Why `order` in src/ordering.rt keeps its contract.

use Rattle.std.proofs.Common.{◌∙◌, string_bytes}
use Rattle.std.proofs.lemmas.Result.{err_from_is_err_and}
use Rattle.ls_commands.proofs.OrderLemmas.{told_fails, told_given}
use Rattle.ls_commands.proofs.ordering.order.Goals as goal

pub returns-in_err-text : goal.returns-in_err-text
returns-in_err-text c =
    let p = err_from_is_err_and c.from_residual-in_err-text.result c.from_residual-in_err-text.ensures.1 in
    rw (p.1, p.2) (told_fails c.args.history.now c.as_str.result.now c.in_err-text.field-0.0
    (c.as_str.ensures.value ∙ c.in_ok-history.ensures) c.in_err-text.ensures)

pub returns : goal.returns
returns c = told_given c.args.history.now c.as_str.result.now (string_bytes c.in_ok-text.text)
    (c.as_str.ensures.value ∙ c.in_ok-history.ensures) c.in_ok-text.ensures
