-- Histories of a program.
use Rattle.std.specs.Prelude.{◌≡◌, ◌-◌, ℕ, List, Option, Some, length, map, option_map, slice_get, take}
use Rattle.ls_events.specs.declared.event.Event.{Event as RunEvent}
use Rattle.ls_events.specs.declared.event.Happening.{Happening}
use Rattle.ls_events.specs.declared.event.Happening.TheVariants as happenings
use Rattle.ls_events.specs.declared.value.Value.{Value}
use Rattle.ls_checked.specs.CheckedProgram.{Program, ThreadProgram}
use Rattle.ls_report.specs.Events.{Event}
use Rattle.ls_report.specs.Lines.{history_text}
use Rattle.ls_report.specs.Printing.{event_of, named}
use Rattle.ls_serial_orders.specs.declared.naming.Named.{Named}
use Rattle.ls_serial_orders.specs.declared.naming.Named.TheVariants as kinds

-- they are these events of the program, each with the names of its call
abbrev pub AreNamed : Program → List RunEvent → List Event → Type 0
AreNamed p run events = map (named p) run ≡ map Some events

-- it is none of the program
abbrev pub IsForeign : Program → Event → Type 0
IsForeign p e = (r : RunEvent) → named p r ≡ Some e → ⊥

-- the event whose line begins at this byte is the first that is none of the program
pub record IsFirstForeign (p : Program) (events : List Event) (at : ℕ) : Type 0 where
  pub count : ℕ
  pub event : Event
  pub there : slice_get events count ≡ Some event
  pub foreign : IsForeign p event
  pub run : List RunEvent
  pub before : AreNamed p run (take count events)
  pub place : at ≡ length (history_text (take count events))

abbrev pub IsRunOf : Program → List Event → Named → Type 0
IsRunOf p events (kinds.Run run) = AreNamed p run.items events
IsRunOf p events (kinds.Foreign at) = IsFirstForeign p events at

-- ---- one event

-- an end that returns a value
abbrev pub answer : Value → RunEvent
answer value = record { thread = 0; call = 0; happening = happenings.Returned (Some value) }

-- the event of a thread's call to which this happened
abbrev pub event_in : Program → ThreadProgram → Happening → ℕ → Option Event
event_in p t h call = option_map (event_of p t (record { thread = 0; call = call; happening = h }))
    (slice_get t.calls (call - 1))

-- the event is that this happened to a thread's call
abbrev pub HasName : Program → ThreadProgram → Happening → Event → Type 0
HasName p t h e = event_in p t h e.call ≡ Some e
