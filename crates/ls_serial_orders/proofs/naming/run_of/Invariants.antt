-- What the loop `event` of `run_of` in src/naming.rt keeps.

use Rattle.std.proofs.Common.{map, take}
use Rattle.ls_checked.specs.PlainProgram.{plain_program}
use Rattle.ls_report.specs.Plain.{plain_event}
use Rattle.ls_serial_orders.specs.Named.{AreNamed}
use Rattle.ls_serial_orders.proofs.naming.run_of.Given as goal

-- the events so far are those of the program
abbrev pub invariant-loop-event : goal.invariant-loop-event
invariant-loop-event l =
    AreNamed (plain_program l.program) l.run.items (take l.event-index (map plain_event l.events))
