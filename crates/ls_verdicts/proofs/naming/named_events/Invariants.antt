-- What the loop `event` of `named_events` in src/naming.rt keeps.

use Rattle.std.proofs.Common.{◌≡◌, ◌++◌, drop}
use Rattle.std.specs.Prelude.{map}
use Rattle.std.specs.List.{filter_map}
use Rattle.ls_checked.specs.PlainProgram.{plain_program}
use Rattle.ls_report.specs.Plain.{plain_event}
use Rattle.ls_report.specs.Printing.{named}
use Rattle.ls_verdicts.proofs.naming.named_events.Given as goal

-- the events so far, and those that are left
abbrev pub invariant-loop-event : goal.invariant-loop-event
invariant-loop-event l =
    map plain_event l.events.items ++ filter_map (named (plain_program l.program)) (drop l.event-index l.history)
    ≡ filter_map (named (plain_program l.program)) l.history
