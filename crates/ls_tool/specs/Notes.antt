-- What is told beside the text that a command prints.
use Rattle.std.specs.Prelude.{◌≡◌, ℕ, Bool, true, false, List, [], ◌∷◌, Result, Ok, Err}
use Rattle.ls_report.specs.Events.{Event, Text}
use Rattle.ls_report.specs.Reading.{BreaksAt, Says}
use Rattle.ls_report.specs.declared.fault.HistoryFault.TheVariants as history_faults
use Rattle.ls_orders.specs.Orders.{order_of}
use Rattle.ls_orders.specs.Rules.{judgement_of}
use Rattle.ls_orders.specs.declared.fault.OrderFault.{OrderFault}
use Rattle.ls_commands.specs.Check.{with_feed}
use Rattle.ls_explanations.specs.OrderNotes.{order_note}
use Rattle.ls_command_line.specs.declared.words.Request.{Request}
use Rattle.ls_command_line.specs.declared.words.Request.TheVariants as requests
use Rattle.ls_faults.specs.Faults.{lifted_order}
use Rattle.ls_faults.specs.declared.fault.ToolFault.{ToolFault}
use Rattle.ls_faults.specs.declared.fault.ToolFault.TheVariants as faults

abbrev pub noted_by : List Event → Result (List Text) OrderFault → Result Text ToolFault
noted_by events (Ok order) = Ok (order_note events order (judgement_of events order))
noted_by events (Err f) = Err (lifted_order f)

-- The history part is a history, and the note that of the judgement of the order, or the fault of the order part; or
-- the history part breaks at a place.
pub data NotesCheck (history order : Text) : Result Text ToolFault → Type 0 where
  Noted : (events : List Event) →
      Says (with_feed history) events →
      NotesCheck history order (noted_by events (order_of order))
  NoHistory : (at : ℕ) →
      BreaksAt (with_feed history) at →
      NotesCheck history order (Err (faults.History (history_faults.BadHistory at)))

-- the commands that tell something beside their text
abbrev pub is_noted : Request → Bool
is_noted requests.Check = true
is_noted other = false

-- what a command tells beside the text that it prints of these parts
abbrev pub NotesOn : Request → List Text → Result Text ToolFault → Type 0
NotesOn requests.Check (history ∷ order ∷ []) note = NotesCheck history order note
NotesOn other parts note = note ≡ Ok []
