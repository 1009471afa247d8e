-- What the loop `i` of `first_wrong` in src/rules.rt keeps.

use Rattle.std.proofs.Common.{◌≡◌, ℤ, map, take, drop, []}
use Rattle.std.specs.Ordering.{int_cmp}
use Rattle.std.specs.BTreeSet.{contains}
use Rattle.ls_orders.specs.Named.{plain_call}
use Rattle.ls_orders.specs.Rules.{first_where, has_wrong_reply, is_present}
use Rattle.ls_orders.proofs.rules.first_wrong.Given as goal

abbrev pub invariant-loop-i : goal.invariant-loop-i
invariant-loop-i l = record {
  same : (z : ℤ) → contains int_cmp l.set z ≡ is_present z (map plain_call (take l.i l.order));
  found : first_where has_wrong_reply (map plain_call (take l.i l.order)) (map plain_call (drop l.i l.order)) ≡
      first_where has_wrong_reply [] (map plain_call l.order);
}
