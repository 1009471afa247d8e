-- What `check` may tell beside its verdict.
use Rattle.std.proofs.Common.{◌≡◌, ◌∙◌, ap, sym, subst, List, Result, Ok, Err}
use Rattle.std.specs.Prelude.{String}
use Rattle.std.specs.Global.{Global}
use Rattle.ls_report.specs.Events.{Event, Text}
use Rattle.ls_report.specs.Reading.{BreaksAt, Explains, Says}
use Rattle.ls_report.specs.declared.fault.HistoryFault.{HistoryFault}
use Rattle.ls_report.specs.declared.fault.HistoryFault.TheVariants as history_faults
use Rattle.ls_orders.specs.Orders.{Fails, order_of}
use Rattle.ls_orders.specs.Rules.{Judgement, judgement_of}
use Rattle.ls_orders.specs.declared.fault.OrderFault.{OrderFault}
use Rattle.ls_orders.specs.declared.fault.OrderFault.TheVariants as order_faults
use Rattle.ls_commands.specs.Check.{with_feed}
use Rattle.ls_explanations.specs.OrderNotes.{order_note}
use Rattle.ls_faults.specs.Faults.{lifted_history, lifted_order}
use Rattle.ls_faults.specs.Given.{GivesText}
use Rattle.ls_faults.specs.declared.fault.ToolFault.{ToolFault}
use Rattle.ls_tool.specs.Notes.{Noted, noted_by, NoHistory, NotesCheck}

abbrev Failed : ToolFault → Result (String Global) ToolFault
Failed f = Err f

-- the history part is none
pub history_fails : (h o t : Text) (f : HistoryFault) →
    t ≡ with_feed h →
    Explains t f →
    GivesText (NotesCheck h o) (Failed (lifted_history f))
history_fails h o t history_faults.Memory e b = tt
history_fails h o t (history_faults.BadHistory at) e b = NoHistory at (subst (λ x. BreaksAt x at) e b)

noted_to : (h o t : Text) (es : List Event) (r : Result (List Text) OrderFault) →
    t ≡ with_feed h →
    Says t es →
    order_of o ≡ r →
    NotesCheck h o (noted_by es r)
noted_to h o t es r e s is = subst (λ x. NotesCheck h o (noted_by es x)) is (Noted es (subst (λ x. Says x es) e s))

-- the order part is none
pub order_fails : (h o t : Text) (es : List Event) (f : OrderFault) →
    t ≡ with_feed h →
    Says t es →
    Fails f (order_of o) →
    GivesText (NotesCheck h o) (Failed (lifted_order f))
order_fails h o t es order_faults.Memory e s k = tt
order_fails h o t es (order_faults.BadOrder at) e s k = noted_to h o t es (Err (order_faults.BadOrder at)) e s k

-- the note is that of the judgement
pub note_given : (h o t : Text) (es : List Event) (order : List Text) (judgement : Judgement) (note : Text) →
    t ≡ with_feed h →
    Says t es →
    order_of o ≡ Ok order →
    judgement ≡ judgement_of es order →
    note ≡ order_note es order judgement →
    NotesCheck h o (Ok note)
note_given h o t es order judgement note e s k is n =
    subst (λ x. NotesCheck h o (Ok x)) (sym (n ∙ ap (order_note es order) is)) (noted_to h o t es (Ok order) e s k)
