-- Why `calls_before` in src/held.rt keeps its contract.

use Rattle.std.proofs.Common.{◌≡◌, ◌∙◌, ap, map}
use Rattle.std.specs.HashMap.{get_by_text}
use Rattle.std.specs.List.{before_first, filter_map}
use Rattle.std.specs.Str.{bytes_eq}
use Rattle.std.proofs.lemmas.Result.{IfOk-weaker}
use Rattle.ls_report.specs.Events.{Text}
use Rattle.ls_report.specs.Plain.{plain_event}
use Rattle.ls_orders.specs.SetCalls.{call_named, set_calls}
use Rattle.ls_explanations.proofs.HeldLemmas.{named_alike}
use Rattle.ls_explanations.proofs.held.calls_before.Goals as goal

pub returns : goal.returns
returns c =
    let history = c.args.history.now in
    let es = map plain_event c.events-events.result.now in
    let is_entry = bytes_eq c.args.entry.now in
    let look = get_by_text c.in_ok-names.names in
    let calls = c.as_slice.ensures.value ∙ c.in_ok-calls.ensures in
    let same : (name : Text) → look name ≡ call_named history (set_calls history) name =
    λ name. c.in_ok-names.ensures name ∙ ap (λ cs. call_named es cs name) calls ∙
    ap (λ h. call_named h (set_calls h) name) c.events-events.ensures in
    IfOk-weaker c.calls_up_to.result _ _ (λ found h. h
    ∙ ap (λ names. filter_map look (before_first is_entry names)) c.calls.ensures
    ∙ named_alike look (call_named history (set_calls history)) (before_first is_entry c.args.order.now) same)
    c.calls_up_to.ensures
