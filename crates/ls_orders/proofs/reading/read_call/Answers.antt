-- Why `read_call` in src/reading.rt keeps its contract.

use Rattle.std.proofs.Common.{ap, cond, Ok, Err}
use Rattle.std.proofs.lemmas.Bool.{false_from_ne_true}
use Rattle.ls_orders.specs.Orders.{is_call}
use Rattle.ls_orders.specs.declared.fault.OrderFault.TheVariants as faults
use Rattle.ls_orders.proofs.CallTexts.{call_is_text}
use Rattle.ls_orders.proofs.reading.read_call.Goals as goal

pub returns-in_default : goal.returns-in_default
returns-in_default c =
    let no = false_from_ne_true (is_call c.args.item.now) (λ h.
    c.in_default.ensures.cases.0 (call_is_text c.args.item.now h)) in
    ap (λ b. cond b (Ok c.args.item.now) (Err (faults.BadOrder c.args.at))) no
