-- Why `in_order` in src/sorting.rt keeps its clause `order`.

use Rattle.std.proofs.Common.{rules}
use Rattle.std.specs.Ordering.{is_lt}
use Rattle.std.proofs.lemmas.List.Sorted.{answers_always, ranks_by}
use Rattle.ls_source_rows.specs.Rows.{row_order}
use Rattle.ls_source_rows.specs.declared.rows.Row.{Row}
use Rattle.ls_source_rows.proofs.Order.{order_total}
use Rattle.ls_source_rows.proofs.sorting.in_order.Goals as goal

pub returns-clause-order : goal.returns-clause-order
returns-clause-order c =
    c.sort_unstable_by.ensures.sorted (λ r s. is_lt (row_order r s)) (ranks_by order_total (λ (r : Row). r))
    (answers_always _ _ _ (λ f a r g h. search rules))
