-- What the loop `name` of `calls_of` in src/naming.rt keeps.

use Rattle.std.proofs.Common.{◌≡◌, drop, map, Option}
use Rattle.std.specs.Prelude.{ok_or}
use Rattle.ls_report.specs.Events.{Text}
use Rattle.ls_orders.specs.Each.{each}
use Rattle.ls_orders.specs.Named.{plain_call}
use Rattle.ls_orders.specs.Names.{IsNamed}
use Rattle.ls_orders.specs.Orders.{plain_text}
use Rattle.ls_orders.specs.declared.calls.SetCall.{SetCall}
use Rattle.ls_orders.proofs.ItemLemmas.{with_front}
use Rattle.ls_orders.proofs.naming.calls_of.Given as goal

abbrev pub invariant-loop-name : goal.invariant-loop-name
invariant-loop-name l = (look : Text → Option SetCall) → IsNamed look l.calls l.names
    → with_front (map plain_call l.named.items) (each (λ name. ok_or (look name) name) (map plain_text
    (drop l.name-index l.order)))
    ≡ each (λ name. ok_or (look name) name) (map plain_text l.order)
