-- Why `next_ending` in src/opening.rt keeps its clauses `none` and `some`.

use Rattle.ls_order_search.proofs.Firsts.{first_end, no_end}
use Rattle.ls_order_search.proofs.opening.next_ending.Goals as goal

pub returns-in-None-clause-none : goal.returns-in-None-clause-none
returns-in-None-clause-none c = λ calls h. no_end c.args.from c.args.pool.now.ends calls h.ends c.in-None.ensures.none

pub returns-in-Some-clause-some : goal.returns-in-Some-clause-some
returns-in-Some-clause-some c = λ calls h. first_end c.args.from c.args.pool.now.ends calls h.ends
    c.in-Some.field-0-0 c.in-Some.call c.in-Some.ensures.some
