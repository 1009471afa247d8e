-- Why `named_calls` in src/held.rt keeps its loop `i`.

use Rattle.std.proofs.Common.{◌∙◌, ◌-◌, ◌<◌, ◌≤◌, ap, arith, cond, get_or, length, map, sym, Some}
use Rattle.std.specs.HashMap.{get_by_text}
use Rattle.std.specs.Prelude.{string_bytes}
use Rattle.std.specs.Str.{bytes_eq}
use Rattle.std.proofs.lemmas.Map.Text.{hash_map_updates_text}
use Rattle.ls_report.specs.Plain.{plain_event}
use Rattle.ls_orders.specs.SetCalls.{name_at}
use Rattle.ls_orders.proofs.RuleLemmas.{no_call}
use Rattle.ls_explanations.proofs.HeldLemmas.{named_before}
use Rattle.ls_explanations.proofs.held.named_calls.Goals as goal

pub loop-i-preserved : goal.loop-i-preserved
loop-i-preserved c = λ text.
    let es = map plain_event c.args.events.now in
    let calls = c.args.calls.now in
    let i = c.loop-i.i in
    let call = get_or calls (i - 1) no_call in
    let names = c.loop-i.names in
    let name = c.in_ok-name.name in
    let some : 0 < i = omega arith in
    let le : i ≤ length calls = omega arith in
    hash_map_updates_text (string_bytes name) names c.insert.new.self (Some call) c.in_ok-insert.ensures.updates text
    ∙ ap (λ bytes. cond (bytes_eq bytes text) (Some call) (get_by_text names text)) c.in_ok-name.ensures
    ∙ ap (cond (bytes_eq (name_at es call.called) text) (Some call)) (c.loop-i.invariant text)
    ∙ sym (named_before es calls i text some le)
