-- What the loop `call` of `group` in src/items.rt keeps.

use Rattle.std.proofs.Common.{take}
use Rattle.ls_order_search.specs.Groups.{IsGrouped}
use Rattle.ls_order_search.proofs.items.group.Given as goal

abbrev pub invariant-loop-call : goal.invariant-loop-call
invariant-loop-call l = IsGrouped l.items (take l.call-index l.calls)
