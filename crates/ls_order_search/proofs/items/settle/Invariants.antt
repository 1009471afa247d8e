-- What the loop `at` of `settle` in src/items.rt keeps.

use Rattle.ls_order_search.specs.Search.{Settling, held}
use Rattle.ls_order_search.proofs.items.settle.Given as goal

abbrev pub invariant-loop-at : goal.invariant-loop-at
invariant-loop-at l = Settling l.groups.calls.now l.at (held l.items) l.marks.items
