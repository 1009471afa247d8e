-- Why `fill` in src/naming.rt keeps its contract.

use Rattle.std.proofs.Common.{◌∙◌, ap}
use Rattle.ls_orders.specs.Names.{numbered}
use Rattle.ls_orders.proofs.NameLemmas.{one_more}
use Rattle.ls_orders.proofs.naming.fill.Goals as goal

pub numbers-preserved : goal.numbers-preserved
numbers-preserved c = λ k. ap (λ xs. numbered xs k) c.in_ok-push.ensures.items ∙ one_more c.numbers.places.items k ∙
    c.numbers.invariant k
