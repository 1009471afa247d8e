-- Why `settle_call` in src/items.rt keeps its contract.

use Rattle.std.proofs.Common.{[], sym, subst, get_or, IfNone, IfSome}
use Rattle.std.proofs.lemmas.Bool.{MatchBool-at_false, MatchBool-at_true}
use Rattle.ls_orders.specs.declared.calls.SetCall.{SetCall}
use Rattle.ls_orders.proofs.RuleLemmas.{no_call}
use Rattle.ls_order_search.specs.Search.{Calls, NoWay, Way, held, is_item, on_items}
use Rattle.ls_order_search.proofs.Settling.{settling_more, settling_same}
use Rattle.ls_order_search.proofs.items.settle_call.Goals as goal

pub returns-then-not-is_new : goal.returns-then-not-is_new
returns-then-not-is_new c =
    settling_same c.args.groups.now.calls.now c.args.at (held c.args.items.now) c.args.marks.now.items no_call
    c.requires.place
    c.requires.so (MatchBool-at_false _ _ c.if-not-is_new.true c.is_new.ensures)

pub returns-in_default : goal.returns-in_default
returns-in_default c =
    let x : SetCall = get_or c.args.groups.now.calls.now c.args.at no_call in (
      is_item x.item,
      subst (λ o. IfNone o (NoWay [] (on_items (is_item x.item) c.args.groups.now.calls.now))) c.in_default.is
          c.in_ok-order.ensures.none,
    )

pub returns : goal.returns
returns c =
    let x : SetCall = get_or c.args.groups.now.calls.now c.args.at no_call in
    let way = subst (λ o. IfSome o
    (λ order. Way [] (on_items (is_item x.item) c.args.groups.now.calls.now) order.items))
    c.in-Some.is c.in_ok-order.ensures.some in
    settling_more c.args.groups.now.calls.now c.args.at (held c.args.items.now) c.args.marks.now.items no_call
    c.requires.place
    c.requires.so
    (held c.put.new.items) c.mark_all.new.marks.items c.as_slice.result.now c.requires.groups.calls.rising
    (MatchBool-at_true _ _ c.if-not-is_new.false c.is_new.ensures).1
    (subst (λ (l : Calls). Way [] (on_items (is_item x.item) c.args.groups.now.calls.now) l)
    (sym c.as_slice.ensures.value) way)
    c.in_ok-put.ensures c.in_ok-mark_all.ensures
