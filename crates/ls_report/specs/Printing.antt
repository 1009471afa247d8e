-- The lines of the events of a run, with the names of the program that was run.
use Rattle.std.specs.Prelude.{ℕ, ◌-◌, List, [], Option, option_and_then, option_map, slice_get}
use Rattle.std.specs.List.{flat_map}
use Rattle.std.specs.Option.{option_map_or}
use Rattle.ls_events.specs.declared.event.Event.{Event as RunEvent}
use Rattle.ls_events.specs.declared.event.Happening.{Happening}
use Rattle.ls_events.specs.declared.event.Happening.TheVariants as happenings
use Rattle.ls_checked.specs.CheckedProgram.{Calling, Making, Program, ProgramCall, ThreadProgram}
use Rattle.ls_report.specs.Events.{Called, Event, Made, Occurrence, Returned, Text, Trapped}
use Rattle.ls_report.specs.Lines.{line, occurrence_text}

-- the name that the setup gives under this number
abbrev pub object_name : Program → ℕ → Text
object_name p number = option_map_or (λ n. n.name) (slice_get p.names number) []

abbrev pub called : Program → ProgramCall → Occurrence
called p (Making name class class_name values) = Made (object_name p name) class_name values
called p (Calling name method method_name result values) = Called (object_name p name) method_name values

abbrev pub occurrence_of : Program → ProgramCall → Happening → Occurrence
occurrence_of p call happenings.Called = called p call
occurrence_of p call (happenings.Returned value) = Returned value
occurrence_of p call (happenings.Trapped kind) = Trapped kind

abbrev pub event_of : Program → ThreadProgram → RunEvent → ProgramCall → Event
event_of p t e call = record { thread = t.name; call = e.call; occurrence = occurrence_of p call e.happening }

-- the event with its names; a thread's calls are numbered from 1
abbrev pub named : Program → RunEvent → Option Event
named p e = option_and_then (λ t. option_map (event_of p t e) (slice_get t.calls (e.call - 1)))
    (slice_get p.threads e.thread)

-- an event of no call of the program has no line
abbrev pub run_line : Program → RunEvent → Text
run_line p e = option_map_or line (named p e) []

-- its words without its thread and call, as `call s.add(3)`
abbrev pub run_words : Program → RunEvent → Text
run_words p e = option_map_or (λ e. occurrence_text e.occurrence) (named p e) []

abbrev pub run_text : Program → List RunEvent → Text
run_text p = flat_map (run_line p)
