-- Why `read_order` in src/reading.rt keeps its contract and its loop `rest`.

use Rattle.std.proofs.Common.{◌∙◌, ◌+◌, ap, sym, arith, map}
use Rattle.std.proofs.lemmas.List.{map_push}
use Rattle.std.proofs.lemmas.Result.{err_from_is_err_and}
use Rattle.ls_orders.specs.Each.{each}
use Rattle.ls_items.specs.Items.{Item, items}
use Rattle.ls_orders.specs.Orders.{call_at, plain_text}
use Rattle.ls_orders.proofs.ItemLemmas.{ends, fails_ends, goes_on, with_front}
use Rattle.ls_items.proofs.Items.{items_split}
use Rattle.ls_orders.proofs.reading.read_order.Goals as goal

pub returns-in_err-call : goal.returns-in_err-call
returns-in_err-call c =
    let p = err_from_is_err_and c.from_residual-in_err-call.result c.from_residual-in_err-call.ensures.1 in
    let front = map plain_text c.loop-rest.calls.items in
    let split = items_split c.loop-rest.at _ c.loop-rest.rest.now _ _ c.item_len-len.ensures c.if-len-eq0.false
    c.split_at.ensures.front c.split_at.ensures.back in
    let item : Item = (c.loop-rest.at, c.split_at.result.0.now) in
    let more = items (c.loop-rest.at + c.item_len-len.result) c.split_at.result.1.now in
    rw (p.1, p.2)
    (fails_ends _ _ _ (λ e. ends call_at front item _ more _ e
    (ap (λ is. with_front front (each call_at is)) (sym split) ∙ c.loop-rest.invariant.read)) c.in_err-call.ensures)

pub loop-rest-preserved : goal.loop-rest-preserved
loop-rest-preserved c =
    let front = map plain_text c.loop-rest.calls.items in
    let split = items_split c.loop-rest.at _ c.loop-rest.rest.now _ _ c.item_len-len.ensures c.if-len-eq0.false
    c.split_at.ensures.front c.split_at.ensures.back in
    let item : Item = (c.loop-rest.at, c.split_at.result.0.now) in
    let more = items (c.loop-rest.at + c.item_len-len.result) c.split_at.result.1.now in
    record {
      place = omega (arith, c.split_at.ensures.back_len);
      read = rw (c.in_ok-push.ensures.items, map_push plain_text c.loop-rest.calls.items c.in_ok-call.call)
          (goes_on call_at front item _ more _ c.in_ok-call.ensures
          (ap (λ is. with_front front (each call_at is)) (sym split) ∙ c.loop-rest.invariant.read));
    }
