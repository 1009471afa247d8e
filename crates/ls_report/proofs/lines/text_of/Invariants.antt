-- What the loop `event` of `text_of` in src/lines.rt keeps.

use Rattle.std.proofs.Common.{◌≡◌, ◌++◌, drop, map, string_bytes}
use Rattle.ls_report.specs.Lines.{history_text}
use Rattle.ls_report.specs.Plain.{plain_event}
use Rattle.ls_report.proofs.lines.text_of.Given as goal

abbrev pub invariant-loop-event : goal.invariant-loop-event
invariant-loop-event l = string_bytes l.out ++ history_text (map plain_event (drop l.event-index l.events)) ≡
    history_text (map plain_event l.events)
