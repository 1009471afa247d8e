-- What may be said of a history that reads back, and of an order.
use Rattle.std.proofs.Common.{◌≡◌, List, Result, Ok, Err, sym, subst}
use Rattle.ls_report.specs.Events.{Event, Text}
use Rattle.ls_report.specs.Reading.{IsReadAs, Says}
use Rattle.ls_report.specs.declared.fault.HistoryFault.{HistoryFault}
use Rattle.ls_report.specs.declared.fault.HistoryFault.TheVariants as history_faults
use Rattle.ls_orders.specs.Orders.{Fails, order_of}
use Rattle.ls_orders.specs.Rules.{judgement_of}
use Rattle.ls_orders.specs.declared.fault.OrderFault.{OrderFault}
use Rattle.ls_orders.specs.declared.fault.OrderFault.TheVariants as order_faults
use Rattle.ls_faults.specs.Faults.{lifted_history, lifted_order}
use Rattle.ls_faults.specs.Given.{GivesText}
use Rattle.ls_faults.proofs.Answering.{Failed}
use Rattle.ls_faults.specs.declared.fault.ToolFault.{ToolFault}
use Rattle.ls_commands.specs.Check.{judged_by, judgement_text}
use Rattle.ls_commands.specs.Paged.{Judged, JudgesTo}

-- a history is read, unless memory runs out
pub history_reads :
    (May : Result Text ToolFault → Type 0)
    (f : HistoryFault) (events : List Event)
    → IsReadAs events (Err f)
    → GivesText May (Failed (lifted_history f))
history_reads May history_faults.Memory events h = tt
history_reads May (history_faults.BadHistory at) events h = absurd h

judged_so :
    (history order : Text) (events : List Event) (read : Result (List Text) OrderFault)
    → Says history events
    → order_of order ≡ read
    → JudgesTo history order (judged_by events read)
judged_so history order events read says is =
    subst (λ r. JudgesTo history order (judged_by events r)) is (Judged events says)

-- an order that breaks
pub order_fails :
    (history order : Text) (events : List Event) (f : OrderFault)
    → Says history events
    → Fails f (order_of order)
    → GivesText (JudgesTo history order) (Failed (lifted_order f))
order_fails history order events order_faults.Memory says is = tt
order_fails history order events (order_faults.BadOrder at) says is =
    judged_so history order events (Err (order_faults.BadOrder at)) says is

-- an order that is judged
pub verdict_given :
    (history order : Text) (events : List Event) (calls : List Text) (text : Text)
    → Says history events
    → order_of order ≡ Ok calls
    → text ≡ judgement_text (judgement_of events calls)
    → JudgesTo history order (Ok text)
verdict_given history order events calls text says is same =
    subst (λ t. JudgesTo history order (Ok t)) (sym same) (judged_so history order events (Ok calls) says is)
