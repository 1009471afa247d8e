-- Why `legal_names` in src/finding.rt keeps its contract.

use Rattle.std.proofs.Common.{◌<◌, ◌^◌, sym, subst, arith, length, map}
use Rattle.std.proofs.lemmas.List.{length-map}
use Rattle.std.proofs.lemmas.Result.{IfOk-weaker}
use Rattle.ls_report.specs.Plain.{plain_event}
use Rattle.ls_orders.specs.Legal.{IsLegal}
use Rattle.ls_order_search.proofs.Lawful.{names_legal}
use Rattle.ls_order_search.proofs.finding.legal_names.Goals as goal

pub returns : goal.returns
returns c =
    let h = map plain_event c.args.events.now in
    let small : length h < 2 ^ 64 = omega (arith, length-map c.args.events.now plain_event) in
    IfOk-weaker c.names_of.result _ _ (λ names e. subst (IsLegal h) (sym e)
    (names_legal h c.args.order.now c.requires.history small c.requires.one_set c.requires.way)) c.names_of.ensures
