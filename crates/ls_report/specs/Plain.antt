-- The plain events that the code's events stand for.
use Rattle.ls_report.specs.Events as events
use Rattle.ls_report.specs.declared.history.Occurrence.{Occurrence}
use Rattle.ls_report.specs.declared.history.Occurrence.TheVariants as occurrences
use Rattle.ls_report.specs.declared.history.NamedEvent.{NamedEvent}

abbrev pub plain_occurrence : Occurrence → events.Occurrence
plain_occurrence (occurrences.Made object class arguments) =
    events.Made object.now class.now arguments.items
plain_occurrence (occurrences.Called object method arguments) =
    events.Called object.now method.now arguments.items
plain_occurrence (occurrences.Returned value) = events.Returned value
plain_occurrence (occurrences.Trapped kind) = events.Trapped kind

abbrev pub plain_event : NamedEvent → events.Event
plain_event e =
    record { thread = e.thread.now; call = e.call; occurrence = plain_occurrence e.occurrence }
