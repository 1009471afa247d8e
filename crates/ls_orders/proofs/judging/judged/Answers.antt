-- Why `judged` in src/judging.rt keeps its contract.

use Rattle.std.proofs.Common.{◌≡◌, ◌∙◌, ap, refl, sym, subst, map, List, Option, Result, Ok}
use Rattle.std.specs.Prelude.{ok_or}
use Rattle.std.proofs.lemmas.Result.{IfOk-weaker}
use Rattle.ls_report.specs.Events.{Text}
use Rattle.ls_report.specs.Plain.{plain_event}
use Rattle.ls_orders.specs.Each.{each}
use Rattle.ls_orders.specs.Named.{plain_call, plain_named}
use Rattle.ls_orders.specs.Names.{IsNamed}
use Rattle.ls_orders.specs.SetCalls.{call_named}
use Rattle.ls_orders.specs.declared.calls.SetCall.{SetCall}
use Rattle.ls_orders.proofs.JudgingLemmas.{judged_so}
use Rattle.ls_orders.proofs.judging.judged.Goals as goal

pub returns : goal.returns
returns c =
    let es = map plain_event c.events-events.result.now in
    let order = c.as_slice-in-Calls-2.result.now in
    let find : Text → Option SetCall = call_named es c.as_slice.result.now in
    let look : Text → Result SetCall Text = λ q. ok_or (find q) q in
    let named = subst (λ (cs : List SetCall). IsNamed find cs c.in_ok-names.names)
    (c.as_slice.ensures.value ∙ sym c.as_slice-2.ensures.value) c.in_ok-names.ensures in
    let said : Ok (map plain_call order) ≡ each look c.args.order.now = ap (λ cs. Ok (map plain_call cs))
    c.as_slice-in-Calls-2.ensures.value ∙ ap plain_named (sym c.in-Calls.is) ∙ c.in_ok-call-2.ensures find named ∙
    ap (each look) c.calls.ensures in
    let same = judged_so es c.args.history.now c.args.order.now find c.as_slice.result.now (Ok (map plain_call order))
    c.events-events.ensures c.in_default.ensures
    (c.as_slice.ensures.value ∙ c.in_ok-calls.ensures) (λ q. refl) said in
    IfOk-weaker c.judge_calls.result _ _ (λ v h. h ∙ same) c.judge_calls.ensures
