-- What the loop `call` of `first_missing` in src/rules.rt keeps.

use Rattle.std.proofs.Common.{◌≡◌, drop, map}
use Rattle.std.specs.Prelude.{find}
use Rattle.ls_orders.specs.Named.{plain_call}
use Rattle.ls_orders.specs.Rules.{is_missing}
use Rattle.ls_orders.proofs.rules.first_missing.Given as goal

abbrev pub invariant-loop-call : goal.invariant-loop-call
invariant-loop-call l = find (is_missing (map plain_call l.order)) (drop l.call-index l.calls) ≡ find
    (is_missing (map plain_call l.order)) l.calls
