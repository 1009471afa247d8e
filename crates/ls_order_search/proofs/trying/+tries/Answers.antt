-- Why the functions of the cycle `tries` in src/trying.rt keep their contracts.

use Rattle.std.proofs.Common.{[], ◌≡◌, ◌∙◌, ◌+◌, ◌<◌, sym, ap, subst, arith, length, drop, get_or, true, length-drop}
use Rattle.std.proofs.Common.{drop_of_length-le}
use Rattle.std.proofs.lemmas.Bool.{true≢false}
use Rattle.std.proofs.lemmas.List.{get_or_default}
use Rattle.std.proofs.lemmas.Result.{IfOk-weaker}
use Rattle.ls_orders.specs.declared.calls.SetCall.{SetCall}
use Rattle.ls_orders.proofs.RuleLemmas.{no_call}
use Rattle.ls_order_search.specs.Plans.{IsPlan}
use Rattle.ls_order_search.specs.Search.{Calls, Lasting, NoPlanOn, Trying, Within}
use Rattle.ls_order_search.specs.Trapped.{is_trapped}
use Rattle.ls_orders.specs.Legal.{empty}
use Rattle.ls_order_search.proofs.Tries.{if_none_more, if_some_more, less_none, less_rises, less_tried, none_last}
use Rattle.ls_order_search.proofs.Tries.{none_of, some_last, tail_is, tried}
use Rattle.ls_order_search.proofs.trying.+tries.Goals as goal
use Rattle.ls_order_search.proofs.trying.+tries.Goals.{then-is_trapped+in_ok-less+in_ok-found+else-is_some+in-Some-1}
use Rattle.ls_order_search.proofs.trying.+tries.Goals.{then-is_trapped+in_ok-less+in_ok-found+else-is_some+in-None-1}
use Rattle.ls_order_search.proofs.trying.+tries.Goals.{else-is_trapped}

pub tries-requires : goal.tries-requires
tries-requires t c =
    let back = c.args.back.now in
    let i = c.loop-i.i in
    let x : SetCall = get_or back i no_call in
    let lt : i < length back = omega arith in
    let less = c.in_ok-less.ensures ∙ c.as_slice.ensures.value in
    let tail = tail_is back (i + 1) in
    let shorter = ap (λ (l : Calls). length l) tail ∙ length-drop (i + 1) back in (
      omega (arith, shorter),
      less_rises c.args.front.items back c.loop-i.front.items back i x c.loop-i.invariant lt
          (get_or_default back i no_call x lt) _ _ less tail,
    )

pub returns-then-is_some-clause-some : goal.returns-then-is_some-clause-some
returns-then-is_some-clause-some t c =
    let back = c.args.back.now in
    let front = c.args.front.items in
    let i = c.loop-i.i in
    let x : SetCall = get_or back i no_call in
    let lt : i < length back = omega arith in
    let less = c.in_ok-less.ensures ∙ c.as_slice.ensures.value in
    let tail = tail_is back (i + 1) in
    let trap : is_trapped x.end ≡ true = sym c.is_trapped.ensures ∙ c.if-is_trapped.true in
    if_some_more c.in_ok-found.found _ _
    (λ order h. less_tried front back c.loop-i.front.items back i x c.loop-i.invariant lt
    (get_or_default back i no_call x lt) c.args.events _ _ order.items less tail trap h) c.in_ok-found.ensures.some

pub loop-i-preserved : goal.loop-i-preserved
loop-i-preserved t c =
    let back = c.args.back.now in
    let i = c.loop-i.i in
    let x : SetCall = get_or back i no_call in
    let lt : i < length back = omega arith in
    let is = get_or_default back i no_call x lt in
    tried c.args.front.items back c.loop-i.front.items back i x c.loop-i.invariant lt is c.push.new.self.items
    c.in_ok-push.ensures.items
    (elim c.if-is_trapped.branch [
      | then-is_trapped+in_ok-less+in_ok-found+else-is_some+in-Some-1 w ↦ λ e.
          less_none c.args.front.items back c.loop-i.front.items back i x c.loop-i.invariant lt is _ _
          (w.in_ok-less.ensures ∙ w.as_slice.ensures.value) (tail_is back (i + 1))
          (none_of w.in_ok-found.found _ (sym w.is_some.ensures ∙ w.if-is_some.false) w.in_ok-found.ensures.none)
      | then-is_trapped+in_ok-less+in_ok-found+else-is_some+in-None-1 w ↦ λ e.
          less_none c.args.front.items back c.loop-i.front.items back i x c.loop-i.invariant lt is _ _
          (w.in_ok-less.ensures ∙ w.as_slice.ensures.value) (tail_is back (i + 1))
          (none_of w.in_ok-found.found _ (sym w.is_some.ensures ∙ w.if-is_some.false) w.in_ok-found.ensures.none)
      | else-is_trapped w ↦ λ e. absurd (true≢false (sym e ∙ sym c.is_trapped.ensures ∙ w.if-is_trapped.false))
    ])

pub returns-clause-none : goal.returns-clause-none
returns-clause-none t c =
    let front = c.args.front.items in
    let back = c.args.back.now in
    let more = c.loop-i.front.items in
    let all : drop c.loop-i.i back ≡ [] = drop_of_length-le back (omega arith) in
    let last : Trying front back more [] = subst (Trying front back more) all c.loop-i.invariant in
    IfOk-weaker c.search.result _ _ (λ found h. if_none_more found _ _
    (λ k. none_last front back more last (subst NoPlanOn c.as_slice-2.ensures.value k)) h) c.search.ensures.none

pub returns-clause-some : goal.returns-clause-some
returns-clause-some t c =
    let front = c.args.front.items in
    let back = c.args.back.now in
    let more = c.loop-i.front.items in
    let all : drop c.loop-i.i back ≡ [] = drop_of_length-le back (omega arith) in
    let last : Trying front back more [] = subst (Trying front back more) all c.loop-i.invariant in
    IfOk-weaker c.search.result _ _ (λ found h. if_some_more found _ _
    (λ order k. some_last c.args.events front back more order.items last
    (subst (λ (l : Calls). Within c.args.events l → Lasting l → IsPlan empty l order.items)
    c.as_slice-2.ensures.value k)) h) c.search.ensures.some
