-- Why `find_calls` in src/items.rt keeps what `joint` requires.

use Rattle.std.proofs.Common.{sym, subst, Bool, List, IfSome}
use Rattle.ls_order_search.specs.Search.{Settled}
use Rattle.ls_order_search.proofs.items.find_calls.Goals as goal

pub joint-requires-clause-settled : goal.joint-requires-clause-settled
joint-requires-clause-settled c =
    subst (λ (l : List Bool). Settled c.args.calls.now l) (sym c.as_slice.ensures.value)
    (subst (λ o. IfSome o (λ m. Settled c.args.calls.now m.items)) c.in-Some.is c.in_ok-marks.ensures.some)
