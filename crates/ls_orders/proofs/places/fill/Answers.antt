-- Why `fill` in src/places.rt keeps its contract.

use Rattle.std.proofs.Common.{◌∙◌, ap}
use Rattle.ls_orders.specs.Places.{is_marked}
use Rattle.ls_orders.proofs.PlaceLemmas.{one_unmarked}
use Rattle.ls_orders.proofs.places.fill.Goals as goal

pub marks-preserved : goal.marks-preserved
marks-preserved c = λ k. ap (λ xs. is_marked xs k) c.in_ok-push.ensures.items ∙ one_unmarked c.marks.marks.items k ∙
    c.marks.invariant k
