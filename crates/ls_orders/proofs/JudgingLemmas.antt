-- From what the parts answer to the judgement.
use Rattle.std.proofs.Common.{◌≡◌, ◌∙◌, ap, List, Option, None, Result}
use Rattle.std.specs.Prelude.{ok_or}
use Rattle.ls_report.specs.Events.{Event, Text}
use Rattle.ls_orders.specs.Each.{each}
use Rattle.ls_orders.specs.SetCalls.{call_named, first_foreign, set_calls}
use Rattle.ls_orders.specs.Rules.{calls_of, judged, judgement_of, unless_foreign}
use Rattle.ls_orders.specs.declared.calls.SetCall.{SetCall}
use Rattle.ls_orders.proofs.NamingLemmas.{each_same}

-- the judgement of an order of a history of one set
pub judged_so : (es h : List Event) (order : List Text) (look : Text → Option SetCall) (calls : List SetCall)
    (r : Result (List SetCall) Text) →
    es ≡ h →
    None ≡ first_foreign es
    → calls ≡ set_calls es → ((q : Text) → look q ≡ call_named es calls q) → r ≡ each (λ n. ok_or (look n) n) order →
    judged es r ≡ judgement_of h order
judged_so es h order look calls r same free is names e =
    let named : r ≡ calls_of es order = e ∙ each_same _ _ order
    (λ q. ap (λ o. ok_or o q) (names q ∙ ap (λ cs. call_named es cs q) is)) in
    ap (judged es) named ∙ ap (λ o. unless_foreign o (judged es (calls_of es order))) free ∙
    ap (λ x. judgement_of x order) same
