-- Why `calls_up_to` in src/held.rt keeps its loop `name`.

use Rattle.std.proofs.Common.{◌∙◌, ◌+◌, ◌++◌, ap, drop, get_or, map, sym}
use Rattle.std.specs.Global.{Vec}
use Rattle.std.specs.HashMap.{get_by_text}
use Rattle.std.specs.List.{before_first, filter_map}
use Rattle.std.specs.Option.{option_copied}
use Rattle.std.specs.Str.{bytes_eq}
use Rattle.std.proofs.lemmas.List.{drop_more}
use Rattle.ls_orders.specs.Orders.{plain_text}
use Rattle.ls_orders.specs.declared.calls.SetCall.{SetCall}
use Rattle.ls_orders.proofs.NamingLemmas.{no_text}
use Rattle.ls_explanations.proofs.HeldLemmas.{entry_named, entry_of_none}
use Rattle.ls_explanations.proofs.held.calls_up_to.Goals as goal
use Rattle.ls_explanations.proofs.held.calls_up_to.Goals.{in-Some+in_ok-push, in_default}

pub loop-name-preserved : goal.loop-name-preserved
loop-name-preserved c =
    let order = c.args.order.now in
    let i = c.loop-name.name-index in
    let look = get_by_text c.args.names.now in
    let is_entry = bytes_eq c.args.entry.now in
    let name = plain_text (get_or order i no_text) in
    let names = map plain_text (drop (i + 1) order) in
    let front = c.loop-name.calls.items in
    let split = ap (map plain_text) (drop_more order i no_text c.loop-name-test.true) in
    let here = ap (λ ns. front ++ filter_map look (before_first is_entry ns)) (sym split) ∙ c.loop-name.invariant in
    let other = sym c.eq.ensures ∙ c.if-eq.false in
    elim c.match-get.branch [
      | in-Some+in_ok-push w ↦ ap (λ cs. cs ++ filter_map look (before_first is_entry names))
          (ap (λ (v : Vec SetCall). v.items) w.calls-is ∙ w.in_ok-push.ensures.items)
          ∙ entry_named look is_entry front name names _ _ other
          (sym c.get.ensures.value ∙ ap option_copied w.in-Some.is) here
      | in_default w ↦ ap (λ (v : Vec SetCall). v.items ++ filter_map look (before_first is_entry names)) w.calls-is
          ∙ entry_of_none look is_entry front name names _ other
          (sym c.get.ensures.value ∙ ap option_copied w.in_default.is) here
    ]
