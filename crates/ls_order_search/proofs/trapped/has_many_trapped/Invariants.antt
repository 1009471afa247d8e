-- What the loop `call` of `has_many_trapped` in src/trapped.rt keeps.

use Rattle.std.proofs.Common.{◌≡◌, ◌≤◌, ℤ, take}
use Rattle.ls_order_search.specs.Groups.{counted}
use Rattle.ls_order_search.specs.Trapped.{most_trapped, trapped_on}
use Rattle.ls_order_search.proofs.trapped.has_many_trapped.Given as goal

abbrev pub invariant-loop-call : goal.invariant-loop-call
invariant-loop-call l = (z : ℤ) → (counted l.counts z ≡ trapped_on z (take l.call-index l.calls)) ×
    (counted l.counts z ≤ most_trapped)
