-- Why `put_at` in src/naming.rt keeps its contract.

use Rattle.std.proofs.Common.{◌∙◌, ◌==◌, ap, cond}
use Rattle.ls_orders.proofs.NameLemmas.{one_put}
use Rattle.ls_orders.proofs.naming.put_at.Goals as goal

pub returns : goal.returns
returns c = λ k. one_put c.fill.new.places.items c.args.number c.args.place k c.in_ok-fill.ensures.0 ∙
    ap (λ p. cond (c.args.number == k) c.args.place p) (c.in_ok-fill.ensures.1 k)
