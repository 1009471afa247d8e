-- What is read of a text.
use Rattle.std.specs.Prelude.{◌≡◌, ◌<◌, ◌++◌, ℕ, true, List, length, Result, Ok, Err}
use Rattle.ls_report.specs.Events.{Event, Text}
use Rattle.ls_report.specs.Discipline.{is_history, is_next}
use Rattle.ls_report.specs.Lines.{history_text, line}
use Rattle.ls_report.specs.declared.fault.HistoryFault.{HistoryFault}
use Rattle.ls_report.specs.declared.fault.HistoryFault.TheVariants as faults

-- the text is the lines of this history
pub record Says (text : Text) (events : List Event) : Type 0 where
  pub history : is_history events ≡ true
  pub lines : text ≡ history_text events

-- The text begins with the lines of a history. It goes on at this place with no line of an event that may come next.
pub record BreaksAt (text : Text) (at : ℕ) : Type 0 where
  pub events : List Event
  pub rest : Text
  pub history : is_history events ≡ true
  pub lines : text ≡ history_text events ++ rest
  pub place : at ≡ length (history_text events)
  pub goes_on : 0 < length rest
  pub none : (e : Event) (after : Text) → is_next events e ≡ true → rest ≡ line e ++ after → ⊥

abbrev pub Explains : Text → HistoryFault → Type 0
Explains text faults.Memory = Unit {0}
Explains text (faults.BadHistory at) = BreaksAt text at

-- the answer for the lines of this history: that history, or memory ran out
abbrev pub IsReadAs : List Event → Result (List Event) HistoryFault → Type 0
IsReadAs events (Ok history) = history ≡ events
IsReadAs events (Err faults.Memory) = Unit {0}
IsReadAs events (Err (faults.BadHistory at)) = ⊥
