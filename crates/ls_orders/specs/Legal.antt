-- Legal orders.
use Rattle.std.specs.Prelude.{◌≡◌, ◌++◌, ℤ, Bool, true, false, List, [], ◌∷◌, Some, None, map, string_bytes}
use Rattle.std.specs.List.{list_any}
use Rattle.ls_report.specs.Events.{Event, Text}
use Rattle.ls_orders.specs.SetCalls.{call_named, first_foreign, set_calls}
use Rattle.ls_orders.specs.Rules as rules
use Rattle.ls_orders.specs.Rules.{Judgement, after_call, answer_of, differs, ended_before, is_returned, is_same}
use Rattle.ls_orders.specs.declared.calls.SetCall.{SetCall}
use Rattle.ls_orders.specs.declared.verdict.OrderVerdict.{OrderVerdict}
use Rattle.ls_orders.specs.declared.verdict.OrderVerdict.TheVariants as verdicts

-- a set: for each item, whether it is in the set
abbrev pub Set : Type 0
Set = ℤ → Bool

abbrev pub empty : Set
empty item = false

abbrev pub after : Set → SetCall → Set
after set c = λ item. after_call item (set item) c

-- The calls one after the other on a set. Each returned call has the reply of the set.
abbrev pub IsRun : Set → List SetCall → Type 0
IsRun set [] = Unit {0}
IsRun set (c ∷ cs) = (differs c.end (answer_of c.operation (set c.item)) ≡ false) × IsRun (after set c) cs

-- The order is a sequence of set calls of the history.
pub record IsLegal (history : List Event) (order : List Text) : Type 0 where
  -- all calls are set calls on one object
  pub one_set : first_foreign history ≡ None
  pub calls : List SetCall
  pub named : map (call_named history (set_calls history)) order ≡ map (λ c. Some c) calls
  pub once : (front back : List SetCall) (x : SetCall) → calls ≡ front ++ x ∷ back → list_any (is_same x) back ≡ false
  -- the order has each call that returned
  pub complete : (front back : List SetCall) (c : SetCall) →
      set_calls history ≡ front ++ c ∷ back →
      is_returned c.end ≡ true →
      list_any (is_same c) calls ≡ true
  -- if a call had ended before another was called, it comes first
  pub in_time : (front middle back : List SetCall) (x y : SetCall) →
      calls ≡ front ++ y ∷ (middle ++ x ∷ back) →
      ended_before x.end y.called ≡ false
  -- the calls are a run of a set that is empty at the start
  pub run : IsRun empty calls

abbrev pub plain_verdict : OrderVerdict → Judgement
plain_verdict verdicts.Legal = rules.Legal
plain_verdict (verdicts.Broken rule call) = rules.Broken rule (string_bytes call)
