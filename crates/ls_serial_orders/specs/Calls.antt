-- The calls of a history, in order.
use Rattle.std.specs.Prelude.{Bool, true, false, List, Option, Some, None, option_and_then, if◌then◌else◌}
use Rattle.std.specs.List.{filter_map}
use Rattle.ls_events.specs.declared.event.Event.{Event as RunEvent}
use Rattle.ls_checked.specs.CheckedProgram.{Program}
use Rattle.ls_report.specs.Events.{Called, Event, Made, Occurrence, Returned, Text, Trapped}
use Rattle.ls_report.specs.Lines.{call_text}
use Rattle.ls_report.specs.Printing.{named}

-- a method is called
abbrev pub is_method : Occurrence → Bool
is_method (Called object method arguments) = true
is_method (Made object class arguments) = false
is_method (Returned value) = false
is_method (Trapped kind) = false

-- the call of a method, by its text, as `A.1`
abbrev pub method_call : Event → Option Text
method_call e = if is_method e.occurrence then Some (call_text e.thread e.call) else None

abbrev pub call_of : Program → RunEvent → Option Text
call_of p r = option_and_then method_call (named p r)

-- the calls of methods, in the order in which they were called
abbrev pub calls_of : Program → List RunEvent → List Text
calls_of p run = filter_map (call_of p) run
