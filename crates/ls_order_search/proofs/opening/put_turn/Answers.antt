-- Why `put_turn` in src/opening.rt keeps its contract.

use Rattle.ls_order_search.specs.Pools.{turn_cmp, turn_of}
use Rattle.ls_order_search.proofs.Indexes.{index_more, index_on}
use Rattle.ls_order_search.proofs.Turns.{turn_exact, turn_total, turns_apart}
use Rattle.std.proofs.Common.{◌∙◌, sym}
use Rattle.ls_order_search.proofs.opening.put_turn.Goals as goal

pub returns-in_ok-insert : goal.returns-in_ok-insert
returns-in_ok-insert c = λ calls d h. index_more turn_cmp turn_of turn_total turn_exact turns_apart c.args.turns.now
    c.insert.new.self calls c.args.call c.in-Some.turn (sym c.in-Some.is ∙ c.turn_of.ensures)
    c.in_ok-insert.ensures.updates.0 d h

pub returns-in_default : goal.returns-in_default
returns-in_default c = λ calls d h. index_on turn_cmp turn_of c.args.turns.now calls c.args.call
    (sym c.in_default.is ∙ c.turn_of.ensures) h
