-- What the loop `event` of `first_foreign` in src/finding.rt keeps.

use Rattle.std.proofs.Common.{◌≡◌, drop, map, None}
use Rattle.std.specs.Option.{option_copied}
use Rattle.ls_report.specs.Plain.{plain_event}
use Rattle.ls_orders.specs.SetCalls.{foreign_from}
use Rattle.ls_orders.proofs.finding.first_foreign.Given as goal

abbrev pub invariant-loop-event : goal.invariant-loop-event
invariant-loop-event l = foreign_from (option_copied l.first) (map plain_event (drop l.event-index l.events)) ≡
    foreign_from None (map plain_event l.events)
