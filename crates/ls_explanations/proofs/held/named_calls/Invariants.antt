-- What the loop `i` of `named_calls` in src/held.rt keeps.

use Rattle.std.proofs.Common.{◌≡◌, drop, map}
use Rattle.std.specs.HashMap.{get_by_text}
use Rattle.ls_report.specs.Events.{Text}
use Rattle.ls_report.specs.Plain.{plain_event}
use Rattle.ls_orders.specs.SetCalls.{call_named}
use Rattle.ls_explanations.proofs.held.named_calls.Given as goal

abbrev pub invariant-loop-i : goal.invariant-loop-i
invariant-loop-i l = (text : Text) →
    get_by_text l.names text ≡ call_named (map plain_event l.events) (drop l.i l.calls) text
