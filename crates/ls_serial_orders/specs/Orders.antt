-- Orders of whole calls, and what is answered of a history.
use Rattle.std.specs.Prelude.{◌≡◌, ◌↔◌, ◌<◌, ◌≤◌, ℕ, List, length, map, string_bytes, take}
use Rattle.ls_events.specs.declared.event.Event.{Event as RunEvent}
use Rattle.ls_checked.specs.CheckedTree.{File}
use Rattle.ls_checked.specs.CheckedProgram.{Program}
use Rattle.ls_meaning.specs.Runs.{source_history}
use Rattle.ls_serial.specs.Serial.{Explains, IsSerial}
use Rattle.ls_linearizable.specs.Linearizable.{IsLinearizable}
use Rattle.ls_serial_search.specs.Open.{HasLongCall, HasManyOrders}
use Rattle.ls_serial_search.specs.Told.{usual}
use Rattle.ls_automaton.specs.Programs.{IsExplainedWithin}
use Rattle.ls_report.specs.Events.{Text}
use Rattle.ls_serial_orders.specs.Calls.{calls_of}
use Rattle.ls_serial_orders.specs.Known.{most_states}
use Rattle.ls_serial_orders.specs.declared.finding.SerialAnswer.{SerialAnswer}
use Rattle.ls_serial_orders.specs.declared.finding.SerialAnswer.TheVariants as outcomes

-- ---- orders

-- In this order a schedule runs the calls of methods one at a time, and its history explains h.
pub record IsOrderOf (file : File) (program : Program) (h : List RunEvent) (order : List Text) : Type 0 where
  pub schedule : List ℕ
  pub serial : IsSerial (source_history file program schedule)
  pub explains : Explains (source_history file program schedule) h
  pub calls : order ≡ calls_of program (source_history file program schedule)

-- a history has an order exactly if it is linearizable
abbrev pub HasOrderExactly : Type 0
HasOrderExactly =
    (file : File) (program : Program) (h : List RunEvent) →
    IsLinearizable file program h ↔ ((order : List Text) × IsOrderOf file program h order)

-- Each beginning of at most `at` events is linearizable. No longer beginning is.
pub record IsHopeless (file : File) (program : Program) (h : List RunEvent) (at : ℕ) : Type 0 where
  pub within : at < length h
  pub before : (count : ℕ) → count ≤ at → IsLinearizable file program (take count h)
  pub with_it : (count : ℕ) → at < count → ¬ IsLinearizable file program (take count h)

-- ---- the outcome

-- A call alone doesn't end within the bound, and no serial run explains the history, each call of which does.
abbrev pub IsUnknown : File → Program → List RunEvent → Type 0
IsUnknown file program h = HasLongCall file program usual.steps × (IsExplainedWithin file program usual.steps h → ⊥)

-- An order explains the history. Or none does from an event on, and one explains the events before that event. Or it
-- isn't known, since a call alone doesn't end, or there are too many states.
abbrev pub IsOutcome : File → Program → List RunEvent → SerialAnswer → Type 0
IsOutcome file program h (outcomes.Ordered order) = IsOrderOf file program h (map string_bytes order.items)
IsOutcome file program h (outcomes.Hopeless at order) = IsHopeless file program h at ×
    IsOrderOf file program (take at h) (map string_bytes order.items)
IsOutcome file program h outcomes.LongCall = IsUnknown file program h
IsOutcome file program h outcomes.ManyStates = HasManyOrders file program most_states
