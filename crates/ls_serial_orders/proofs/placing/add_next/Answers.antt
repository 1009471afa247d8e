-- Why `add_next` in src/placing.rt keeps its contract.

use Rattle.std.proofs.Common.{List, subst, sym}
use Rattle.ls_events.specs.declared.event.Event.{Event}
use Rattle.ls_automaton.proofs.Entries.{not_both}
use Rattle.ls_serial_orders.specs.declared.placing.Placed.{Placed}
use Rattle.ls_serial_orders.specs.Placing.{HasLike, MayCome}
use Rattle.ls_serial_orders.proofs.Added.{added_known, added_new, added_none}
use Rattle.ls_serial_orders.proofs.placing.add_next.Goals as goal

pub returns-then-not-may_come : goal.returns-then-not-may_come
returns-then-not-may_come c =
    added_none c.args.history.now c.args.placed.now c.args.outcome.now c.args.next.now.items
    (λ may. not_both (c.may_come.ensures.1 (subst (λ (l : List Event). MayCome c.args.history.now l
    c.args.outcome.now.end) (sym c.as_slice-ends.ensures.value) may)) c.if-not-may_come.true)

pub returns-then-has_like : goal.returns-then-has_like
returns-then-has_like c =
    added_known c.args.history.now c.args.placed.now c.args.outcome.now c.args.next.now.items c.in_ok-more.more
    c.in_ok-more.ensures.state c.in_ok-more.ensures.ends
    (subst (λ (l : List Placed). HasLike l c.in_ok-more.more.state c.in_ok-more.more.ends.items)
    c.as_slice-known.ensures.value (c.has_like.ensures c.if-has_like.true))

pub returns : goal.returns
returns c =
    added_new c.args.history.now c.args.placed.now c.args.outcome.now c.args.next.now.items c.push.new.self.items
    c.in_ok-more.more
    (subst (λ (l : List Event). MayCome c.args.history.now l c.args.outcome.now.end) c.as_slice-ends.ensures.value
    (c.may_come.ensures.0 c.if-not-may_come.false))
    c.in_ok-more.ensures.state c.in_ok-more.ensures.ends c.in_ok-push.ensures.items
