-- What the loop `call` of `added` in src/held.rt keeps.

use Rattle.std.proofs.Common.{◌≡◌, ℤ, drop, []}
use Rattle.std.specs.BTreeSet.{contains}
use Rattle.std.specs.List.{list_any}
use Rattle.std.specs.Ordering.{int_cmp, int_eq}
use Rattle.ls_explanations.specs.Held.{added_after}
use Rattle.ls_explanations.proofs.held.added.Given as goal

abbrev pub invariant-loop-call : goal.invariant-loop-call
invariant-loop-call l = record {
  same : (z : ℤ) → contains int_cmp l.seen z ≡ list_any (int_eq z) l.items.items;
  found : added_after l.items.items (drop l.call-index l.calls) ≡ added_after [] l.calls;
}
