-- What the loop `call` of `mark_all` in src/items.rt keeps.

use Rattle.std.proofs.Common.{◌≡◌, ◌==◌, ◌||◌, ℕ, take}
use Rattle.std.specs.List.{list_any}
use Rattle.ls_orders.specs.Places.{is_marked}
use Rattle.ls_order_search.proofs.items.mark_all.Given as goal

abbrev pub invariant-loop-call : goal.invariant-loop-call
invariant-loop-call l = (k : ℕ) → is_marked l.marks.items k ≡
    (list_any (λ c. c.called == k) (take l.call-index l.order) || is_marked l.initial.marks.items k)
