-- Why `in_order` in src/rows.rt keeps its clause `order`.

use Rattle.std.proofs.Common.{rules}
use Rattle.std.specs.Ordering.{is_lt}
use Rattle.std.proofs.lemmas.List.Sorted.{answers_always, ranks_by}
use Rattle.ls_explore.specs.Rows.{Told, row_order}
use Rattle.ls_explore.proofs.Order.{order_total}
use Rattle.ls_explore.proofs.rows.in_order.Goals as goal

pub returns-clause-order : goal.returns-clause-order
returns-clause-order c =
    c.sort_unstable_by.ensures.sorted (λ r s. is_lt (row_order r s)) (ranks_by order_total (λ (r : Told). r))
    (answers_always _ _ _ (λ f a r g h. search rules))
