-- Why `order_of` in src/finding.rt keeps its clause `none` and what `find_calls` and `legal_names` require.

use Rattle.std.proofs.Common.{[], sym, subst, map, IfNone, IfSome}
use Rattle.std.proofs.lemmas.List.{length-map}
use Rattle.ls_report.specs.Plain.{plain_event}
use Rattle.ls_order_search.specs.Search.{Calls, NoOrder, Way}
use Rattle.ls_order_search.proofs.Lawful.{calls_of_history}
use Rattle.ls_order_search.proofs.Legality.{never_legal}
use Rattle.ls_order_search.proofs.finding.order_of.Goals as goal

pub find_calls-requires : goal.find_calls-requires
find_calls-requires c =
    calls_of_history (map plain_event c.args.events.now) _ _ (sym (length-map c.args.events.now plain_event))
    c.requires.calls

pub legal_names-requires-clause-way : goal.legal_names-requires-clause-way
legal_names-requires-clause-way c =
    let some = subst (λ o. IfSome o (λ p. Way [] c.args.calls.now p.items)) c.in-Some.is c.in_ok-order.ensures.some in
    subst (λ (l : Calls). Way [] l c.as_slice.result.now) c.requires.calls
    (subst (λ (l : Calls). Way [] c.args.calls.now l) (sym c.as_slice.ensures.value) some)

pub returns-in-None-clause-none : goal.returns-in-None-clause-none
returns-in-None-clause-none c = λ order.
    never_legal (map plain_event c.args.events.now) order
    (subst NoOrder c.requires.calls (subst (λ o. IfNone o (NoOrder c.args.calls.now)) c.in-None.is
    c.in_ok-order.ensures.none))
