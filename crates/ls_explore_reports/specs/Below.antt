-- What stands below a row.
use Rattle.std.specs.Prelude.{◌≡◌, Bool, true, false, List, [], Option, None, Some}
use Rattle.ls_checked.specs.CheckedTree.{File}
use Rattle.ls_checked.specs.CheckedProgram.{Program}
use Rattle.ls_events.specs.declared.event.Event.{Event as RunEvent}
use Rattle.ls_report.specs.Events.{Event, Text}
use Rattle.ls_serial_orders.specs.Known.{IsKnownOf}
use Rattle.ls_serial_orders.specs.Named.{AreNamed}
use Rattle.ls_serial_orders.specs.Telling.{Tells}
use Rattle.ls_serial_orders.specs.declared.finding.Known.{Known}

-- each event has its call's names
abbrev pub HasNames : Program → List RunEvent → Type 0
HasNames program run = (events : List Event) × AreNamed program run events

-- where orders are asked for, what the command `order` tells of the history; else nothing
abbrev pub IsBelow : Bool → File → Program → List RunEvent → Text → Type 0
IsBelow false file program run text = text ≡ []
IsBelow true file program run text =
    (events : List Event) × AreNamed program run events × Tells file program run events text

-- the program with its states between calls, where orders are asked for
abbrev pub IsFor : Bool → File → Program → Option Known → Type 0
IsFor orders file program None = orders ≡ false
IsFor orders file program (Some known) = (orders ≡ true) × IsKnownOf file program known
