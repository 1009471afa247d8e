-- Why `names_of` in src/finding.rt keeps its loop `call`.

use Rattle.std.proofs.Common.{◌∙◌, ◌<◌, ◌∷◌, ◌++◌, [], sym, ap, ap₂, arith, length, map, string_bytes}
use Rattle.std.proofs.lemmas.List.{map_more, map_push}
use Rattle.ls_report.specs.Plain.{plain_event}
use Rattle.ls_orders.specs.Rules.{named_by}
use Rattle.ls_orders.proofs.RuleLemmas.{no_call}
use Rattle.ls_order_search.proofs.finding.names_of.Goals as goal

pub loop-call-preserved : goal.loop-call-preserved
loop-call-preserved c =
    let h = map plain_event c.args.events.now in
    let order = c.args.order.now in
    let i = c.loop-call.call-index in
    let lt : i < length order = omega arith in
    ap (map string_bytes) c.in_ok-push.ensures.items ∙ map_push string_bytes c.loop-call.names.items c.in_ok-name.name
    ∙ ap₂ (λ xs x. xs ++ x ∷ []) c.loop-call.invariant c.in_ok-name.ensures ∙
    sym (map_more (named_by h) order i no_call lt)
