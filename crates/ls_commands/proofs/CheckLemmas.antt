-- What `check` may answer.
use Rattle.std.proofs.Common.{◌≡◌, sym, subst, List, Result, Ok, Err}
use Rattle.std.specs.Prelude.{String}
use Rattle.std.specs.Global.{Global}
use Rattle.ls_report.specs.Events.{Event, Text}
use Rattle.ls_report.specs.Reading.{BreaksAt, Explains, Says}
use Rattle.ls_report.specs.declared.fault.HistoryFault.{HistoryFault}
use Rattle.ls_report.specs.declared.fault.HistoryFault.TheVariants as history_faults
use Rattle.ls_orders.specs.Orders.{Fails, order_of}
use Rattle.ls_orders.specs.Rules.{judgement_of}
use Rattle.ls_orders.specs.declared.fault.OrderFault.{OrderFault}
use Rattle.ls_orders.specs.declared.fault.OrderFault.TheVariants as order_faults
use Rattle.ls_commands.specs.Check.{ChecksTo, Judged, NoHistory, judged_by, judgement_text, with_feed}
use Rattle.ls_faults.specs.Faults.{lifted_history, lifted_order}
use Rattle.ls_faults.specs.Given.{GivesText}
use Rattle.ls_faults.specs.declared.fault.ToolFault.{ToolFault}

abbrev Failed : ToolFault → Result (String Global) ToolFault
Failed f = Err f

pub history_fails : (h o t : Text) (f : HistoryFault) →
    t ≡ with_feed h →
    Explains t f →
    GivesText (ChecksTo h o) (Failed (lifted_history f))
history_fails h o t history_faults.Memory e b = tt
history_fails h o t (history_faults.BadHistory at) e b = NoHistory at (subst (λ x. BreaksAt x at) e b)

judged_to : (h o t : Text) (es : List Event) (r : Result (List Text) OrderFault) →
    t ≡ with_feed h →
    Says t es →
    order_of o ≡ r →
    ChecksTo h o (judged_by es r)
judged_to h o t es r e s is = subst (λ x. ChecksTo h o (judged_by es x)) is (Judged es (subst (λ x. Says x es) e s))

pub order_fails : (h o t : Text) (es : List Event) (f : OrderFault) →
    t ≡ with_feed h →
    Says t es →
    Fails f (order_of o) →
    GivesText (ChecksTo h o) (Failed (lifted_order f))
order_fails h o t es order_faults.Memory e s k = tt
order_fails h o t es (order_faults.BadOrder at) e s k = judged_to h o t es (Err (order_faults.BadOrder at)) e s k

pub verdict_given : (h o t : Text) (es : List Event) (order : List Text) (text : Text) →
    t ≡ with_feed h →
    Says t es →
    order_of o ≡ Ok order
    → text ≡ judgement_text (judgement_of es order) → ChecksTo h o (Ok text)
verdict_given h o t es order text e s k is = subst (λ x. ChecksTo h o (Ok x)) (sym is)
    (judged_to h o t es (Ok order) e s k)
