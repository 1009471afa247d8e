-- Why `put_ending` in src/opening.rt keeps its contract.

use Rattle.ls_order_search.specs.Pools.{ending_cmp, ending_of}
use Rattle.ls_order_search.proofs.Indexes.{index_more, index_on}
use Rattle.ls_order_search.proofs.Turns.{ending_exact, ending_total, endings_apart}
use Rattle.std.proofs.Common.{◌∙◌, sym}
use Rattle.ls_order_search.proofs.opening.put_ending.Goals as goal

pub returns-in_ok-insert : goal.returns-in_ok-insert
returns-in_ok-insert c = λ calls d h. index_more ending_cmp ending_of ending_total ending_exact endings_apart
    c.args.ends.now c.insert.new.self calls c.args.call c.in-Some.ending (sym c.in-Some.is ∙ c.ending_of.ensures)
    c.in_ok-insert.ensures.updates.0 d h

pub returns-in_default : goal.returns-in_default
returns-in_default c = λ calls d h. index_on ending_cmp ending_of c.args.ends.now calls c.args.call
    (sym c.in_default.is ∙ c.ending_of.ensures) h
