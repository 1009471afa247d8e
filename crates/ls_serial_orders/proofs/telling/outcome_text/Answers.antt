-- Why `outcome_text` in src/telling.rt keeps its contract.

use Rattle.std.proofs.Common.{◌∙◌, ap, map, subst, sym, string_bytes, List, String, Global}
use Rattle.ls_checked.specs.PlainProgram.{plain_program}
use Rattle.ls_report.specs.Lines.{event_text}
use Rattle.ls_order_search.specs.OrderLines.{order_line}
use Rattle.ls_order_search.specs.Telling.{hopeless_text}
use Rattle.ls_serial.proofs.Lists.{is_get}
use Rattle.ls_serial_orders.specs.Orders.{IsOutcome}
use Rattle.ls_serial_orders.specs.Telling.{LongCall, ManyStates, Ordered, Tells}
use Rattle.ls_serial_orders.proofs.TellingLemmas.{hopeless_told}
use Rattle.ls_serial_orders.proofs.telling.outcome_text.Goals as goal

pub returns-in_ok-text-in-Ordered : goal.returns-in_ok-text-in-Ordered
returns-in_ok-text-in-Ordered c = λ file events o named.
    let p = plain_program c.args.program.now in
    let h = c.args.history.now in
    subst (Tells file p h events)
    (sym (c.in_ok-text-in-Ordered.ensures ∙ ap (λ (l : List (String Global)). order_line (map string_bytes l))
    c.as_slice.ensures.value))
    (Ordered (map string_bytes c.in-Ordered.order.items) (subst (IsOutcome file p h) c.in-Ordered.is o))

pub returns-in_ok-text-in-Hopeless : goal.returns-in_ok-text-in-Hopeless
returns-in_ok-text-in-Hopeless c = λ file events o named.
    let p = plain_program c.args.program.now in
    let h = c.args.history.now in
    let said = subst (IsOutcome file p h) c.in-Hopeless.is o in
    hopeless_told file p h c.in-Hopeless.at _ (map string_bytes c.in-Hopeless.order.items) _ said.0 said.1
    (is_get h c.in-Hopeless.at _ said.0.within)
    (λ e is. c.in_ok-text-in-Hopeless.ensures e is ∙ ap (λ (l : List (String Global)).
    hopeless_text c.in-Hopeless.at (event_text e) (map string_bytes l)) c.as_slice-in-Hopeless.ensures.value)
    events named

pub returns-in_ok-text-in-LongCall : goal.returns-in_ok-text-in-LongCall
returns-in_ok-text-in-LongCall c = λ file events o named.
    let p = plain_program c.args.program.now in
    let h = c.args.history.now in
    subst (Tells file p h events) (sym c.in_ok-text-in-LongCall.ensures.ok)
    (LongCall (subst (IsOutcome file p h) c.in-LongCall.is o))

pub returns-in_ok-text-in-ManyStates : goal.returns-in_ok-text-in-ManyStates
returns-in_ok-text-in-ManyStates c = λ file events o named.
    let p = plain_program c.args.program.now in
    let h = c.args.history.now in
    subst (Tells file p h events) (sym c.in_ok-text-in-ManyStates.ensures.ok)
    (ManyStates (subst (IsOutcome file p h) c.in-ManyStates.is o))
