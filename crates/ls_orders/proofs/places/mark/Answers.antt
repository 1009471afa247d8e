-- Why `mark` in src/places.rt keeps its contract.

use Rattle.std.proofs.Common.{◌∙◌, ◌==◌, ◌||◌, ap}
use Rattle.ls_orders.proofs.PlaceLemmas.{one_marked}
use Rattle.ls_orders.proofs.places.mark.Goals as goal

pub returns : goal.returns
returns c = λ k. one_marked c.fill.new.marks.items c.args.place k c.in_ok-fill.ensures.0 ∙
    ap (λ b. c.args.place == k || b) (c.in_ok-fill.ensures.1 k)
