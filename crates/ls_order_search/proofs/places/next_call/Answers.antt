-- Why `next_call` in src/places.rt keeps its clauses `comes` and `last`.

use Rattle.ls_order_search.proofs.Skips.{first_comes, first_is_last}
use Rattle.ls_order_search.proofs.places.next_call.Goals as goal

pub returns-then-next-calls-clause-comes : goal.returns-then-next-calls-clause-comes
returns-then-next-calls-clause-comes c = first_comes c.args.calls.now c.args.next _ c.args.most c.min.result
    c.if-next-calls.true c.min.ensures c.requires

pub returns-then-next-calls-clause-last : goal.returns-then-next-calls-clause-last
returns-then-next-calls-clause-last c = first_is_last c.args.calls.now c.args.next _ c.args.most c.min.result
    c.if-next-calls.true c.min.ensures
