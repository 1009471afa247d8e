-- No event stands twice in a history.
use Rattle.std.specs.Prelude.{◌≡◌, true, List, Some, map}
use Rattle.ls_events.specs.declared.event.Event.{Event as RunEvent}
use Rattle.ls_checked.specs.CheckedProgram.{Program}
use Rattle.ls_report.specs.Discipline.{is_history}
use Rattle.ls_report.specs.Events.{Event}
use Rattle.ls_report.specs.Printing.{named}
use Rattle.ls_linearizable.specs.Once.{AreOnce}

abbrev pub ReadableIsOnce : Type 0
ReadableIsOnce =
    (p : Program) (h : List RunEvent) (events : List Event) → map (named p) h ≡ map Some events →
    is_history events ≡ true → AreOnce h
