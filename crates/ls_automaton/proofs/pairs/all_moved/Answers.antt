-- Why `all_moved` in src/pairs.rt keeps its contract.

use Rattle.std.proofs.Common.{◌∙◌, sym}
use Rattle.ls_automaton.specs.Held.{helds_of}
use Rattle.ls_automaton.proofs.Layers.{moved_begins, moved_ends, same_along, same_as}
use Rattle.ls_automaton.proofs.pairs.all_moved.Goals as goal

pub returns-then-is_call : goal.returns-then-is_call
returns-then-is_call c = same_as _ _ (c.in_ok-begun.ensures
    ∙ sym (moved_begins c.args.rows.now c.args.event.now (helds_of c.args.pairs.now)
    (sym c.is_call.ensures ∙ c.if-is_call.true)))

pub returns : goal.returns
returns c = same_along (helds_of c.in_ok-ended.ended.items) _ _ c.in_ok-ended.ensures
    (same_as _ _ (sym (moved_ends c.args.rows.now c.args.event.now (helds_of c.args.pairs.now)
    (sym c.is_call.ensures ∙ c.if-is_call.false))))

pub all_ended-requires : goal.all_ended-requires
all_ended-requires c = sym c.is_call.ensures ∙ c.if-is_call.false
