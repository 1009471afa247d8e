-- What the loop `call` of `names_of` in src/finding.rt keeps.

use Rattle.std.proofs.Common.{◌≡◌, map, take, string_bytes}
use Rattle.ls_report.specs.Plain.{plain_event}
use Rattle.ls_orders.specs.Rules.{named_by}
use Rattle.ls_order_search.proofs.finding.names_of.Given as goal

abbrev pub invariant-loop-call : goal.invariant-loop-call
invariant-loop-call l = map string_bytes l.names.items ≡ map (named_by (map plain_event l.events))
    (take l.call-index l.order)
