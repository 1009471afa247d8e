-- What the loop `call` of `set_after` in src/held.rt keeps.

use Rattle.std.proofs.Common.{◌≡◌, ℤ, take}
use Rattle.std.specs.BTreeSet.{contains}
use Rattle.std.specs.Ordering.{int_cmp}
use Rattle.ls_orders.specs.Rules.{is_present}
use Rattle.ls_explanations.proofs.held.set_after.Given as goal

abbrev pub invariant-loop-call : goal.invariant-loop-call
invariant-loop-call l = (item : ℤ) → contains int_cmp l.set item ≡ is_present item (take l.call-index l.calls)
