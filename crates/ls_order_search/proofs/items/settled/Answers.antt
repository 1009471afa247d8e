-- Why `settled` in src/items.rt keeps its clause `some`.

use Rattle.std.proofs.Common.{◌∙◌, sym}
use Rattle.ls_order_search.proofs.Settling.{none_trapped}
use Rattle.ls_order_search.proofs.items.settled.Goals as goal

pub returns-then-not-has_trapped-clause-some : goal.returns-then-not-has_trapped-clause-some
returns-then-not-has_trapped-clause-some c = none_trapped c.args.calls.now c.new.result.items
    (sym c.has_trapped.ensures ∙ c.if-not-has_trapped.true)
