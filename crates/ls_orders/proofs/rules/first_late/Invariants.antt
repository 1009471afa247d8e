-- What the loop `i` of `first_late` in src/rules.rt keeps.

use Rattle.std.proofs.Common.{◌≡◌, map, take, drop, []}
use Rattle.std.specs.List.{list_any}
use Rattle.ls_orders.specs.Named.{plain_call}
use Rattle.ls_orders.specs.declared.calls.End.{End}
use Rattle.ls_orders.specs.Rules.{ended_before, first_where, is_late}
use Rattle.ls_orders.proofs.rules.first_late.Given as goal

abbrev pub invariant-loop-i : goal.invariant-loop-i
invariant-loop-i l = record {
  latest : (end : End) →
      list_any (λ y. ended_before end y.called) (map plain_call (take l.i l.order)) ≡ ended_before end l.latest;
  found : first_where is_late (map plain_call (take l.i l.order)) (map plain_call (drop l.i l.order)) ≡ first_where
      is_late [] (map plain_call l.order);
}
