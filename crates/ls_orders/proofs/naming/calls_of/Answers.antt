-- Why `calls_of` in src/naming.rt keeps its contract and its loop `name`.

use Rattle.std.proofs.Common.{◌∙◌, ◌+◌, ap, sym, get_or, map, drop, Result, Err}
use Rattle.std.specs.Prelude.{ok_or}
use Rattle.std.specs.Option.{option_copied}
use Rattle.std.proofs.lemmas.List.{drop_more, map_push}
use Rattle.ls_report.specs.Events.{Text}
use Rattle.ls_orders.specs.declared.calls.SetCall.{SetCall}
use Rattle.ls_orders.specs.Each.{each}
use Rattle.ls_orders.specs.Named.{plain_call}
use Rattle.ls_orders.specs.Orders.{plain_text}
use Rattle.ls_orders.proofs.ItemLemmas.{ends, goes_on, with_front}
use Rattle.ls_orders.proofs.NamingLemmas.{no_text}
use Rattle.ls_orders.proofs.naming.calls_of.Goals as goal

pub returns-in-None : goal.returns-in-None
returns-in-None c = λ look h.
    let order = c.args.order.now in
    let i = c.loop-name.name-index in
    let name = plain_text (get_or order i no_text) in
    let read : Text → Result SetCall Text = λ q. ok_or (look q) q in
    let rest = map plain_text (drop (i + 1) order) in
    let front = map plain_call c.loop-name.named.items in
    let split = ap (map plain_text) (drop_more order i no_text c.loop-name-test.true) in
    let none = ap (λ o. ok_or o name) (sym (c.call_of.ensures look h) ∙ ap option_copied c.in-None.is) in
    ap Err c.in_ok-from_str-in-None.ensures.ok
    ∙ sym (ends read front name name rest _ none (ap (λ xs. with_front front (each read xs)) (sym split) ∙
    c.loop-name.invariant look h))

pub loop-name-preserved : goal.loop-name-preserved
loop-name-preserved c = λ look h.
    let order = c.args.order.now in
    let i = c.loop-name.name-index in
    let name = plain_text (get_or order i no_text) in
    let read : Text → Result SetCall Text = λ q. ok_or (look q) q in
    let rest = map plain_text (drop (i + 1) order) in
    let named = c.loop-name.named.items in
    let front = map plain_call named in
    let call = c.in-Some.call in
    let split = ap (map plain_text) (drop_more order i no_text c.loop-name-test.true) in
    let some = ap (λ o. ok_or o name) (sym (c.call_of.ensures look h) ∙ ap option_copied c.in-Some.is) in
    ap (λ xs. with_front xs (each read rest)) (ap (map plain_call) c.in_ok-push-in-Some.ensures.items ∙
    map_push plain_call named call)
    ∙ goes_on read front name call.now rest _ some (ap (λ xs. with_front front (each read xs)) (sym split) ∙
    c.loop-name.invariant look h)
