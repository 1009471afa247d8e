-- Why `take_ending` in src/opening.rt keeps its contract.

use Rattle.std.proofs.Common.{sym, ◌∙◌}
use Rattle.ls_order_search.specs.Pools.{ending_cmp, ending_of}
use Rattle.ls_order_search.proofs.Indexes.{index_less, index_off}
use Rattle.ls_order_search.proofs.Turns.{ending_exact, ending_total, endings_apart}
use Rattle.ls_order_search.proofs.opening.take_ending.Goals as goal

pub returns-in-Some : goal.returns-in-Some
returns-in-Some c = λ front back d h. index_less ending_cmp ending_of ending_total ending_exact endings_apart
    c.args.ends.now c.remove.new.self front back c.args.call c.in-Some.ending (sym c.in-Some.is ∙ c.ending_of.ensures)
    c.remove.ensures.updates.0 d h

pub returns-in_default : goal.returns-in_default
returns-in_default c = λ front back d h. index_off ending_cmp ending_of c.args.ends.now front back c.args.call
    (sym c.in_default.is ∙ c.ending_of.ensures) h
