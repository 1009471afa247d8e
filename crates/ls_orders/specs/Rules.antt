-- The rules of an order, each by the first call that breaks it.
use Rattle.std.specs.Prelude.{◌==◌, ◌&&◌, ◌||◌, ◌++◌, ℕ, ℤ, Bool, true, false, not, List, [], ◌∷◌, Option, Some, None}
use Rattle.std.specs.Prelude.{Result, Ok, Err, nat_lt, find, ok_or, if◌then◌else◌}
use Rattle.std.specs.Ordering.{int_eq}
use Rattle.std.specs.List.{list_any}
use Rattle.ls_report.specs.Events.{Event, Text}
use Rattle.ls_orders.specs.declared.calls.Operation.{Operation}
use Rattle.ls_orders.specs.declared.calls.Operation.TheVariants.{Add, Remove, Contains}
use Rattle.ls_orders.specs.declared.calls.End.{End}
use Rattle.ls_orders.specs.declared.calls.End.TheVariants.{Pending, Returned, Trapped}
use Rattle.ls_orders.specs.declared.calls.SetCall.{SetCall}
use Rattle.ls_orders.specs.declared.verdict.OrderRule.{OrderRule}
use Rattle.ls_orders.specs.declared.verdict.OrderRule.TheVariants as rules_of
use Rattle.ls_orders.specs.Each.{each}
use Rattle.ls_orders.specs.SetCalls.{call_named, first_foreign, name_at, name_of, set_calls}

-- ---- the set

-- whether an item is present after an operation on it
abbrev pub present_after : Operation → Bool → Bool
present_after Add was = true
present_after Remove was = false
present_after Contains was = was

-- whether the item is present after the call
abbrev pub after_call : ℤ → Bool → SetCall → Bool
after_call item was c = if int_eq c.item item then present_after c.operation was else was

-- what the set answers: add says whether the item was absent; remove and contains say whether it was present
abbrev pub answer_of : Operation → Bool → Bool
answer_of Add was = not was
answer_of Remove was = was
answer_of Contains was = was

-- whether the item is present after the calls, if the set is empty at the start
abbrev pub present_from : ℤ → Bool → List SetCall → Bool
present_from item was [] = was
present_from item was (c ∷ cs) = present_from item (after_call item was c) cs

abbrev pub is_present : ℤ → List SetCall → Bool
is_present item calls = present_from item false calls

-- ---- the tests

abbrev pub is_same : SetCall → SetCall → Bool
is_same x y = y.called == x.called

abbrev pub is_returned : End → Bool
is_returned (Returned at reply) = true
is_returned other = false

-- the return or trap is before the place
abbrev pub ended_before : End → ℕ → Bool
ended_before Pending at = false
ended_before (Trapped end) at = nat_lt end at
ended_before (Returned end reply) at = nat_lt end at

-- a returned call has another reply; pending and trapped calls may have any reply
abbrev pub differs : End → Bool → Bool
differs (Returned at (Some reply)) wanted = not (reply && wanted || (not reply && not wanted))
differs (Returned at None) wanted = true
differs other wanted = false

-- a returned call that the order lacks
abbrev pub is_missing : List SetCall → SetCall → Bool
is_missing order c = is_returned c.end && not (list_any (is_same c) order)

-- a call comes before this call, and was called only after this call had ended
abbrev pub is_late : List SetCall → SetCall → Bool
is_late front x = list_any (λ y. ended_before x.end y.called) front

abbrev pub has_wrong_reply : List SetCall → SetCall → Bool
has_wrong_reply front x = differs x.end (answer_of x.operation (is_present x.item front))

-- ---- the first call that passes

-- the first call that passes, with the calls before it
abbrev pub first_where : (List SetCall → SetCall → Bool) → List SetCall → List SetCall → Option SetCall
first_where p front [] = None
first_where p front (x ∷ xs) = if p front x then Some x else first_where p (front ++ x ∷ []) xs

-- the first call that comes a second time
abbrev pub first_repeated : List SetCall → Option SetCall
first_repeated [] = None
first_repeated (x ∷ xs) = if list_any (is_same x) xs then Some x else first_repeated xs

-- ---- the verdict

pub data Judgement : Type 0 where
  Legal : Judgement
  Broken : (rule : OrderRule) → (call : Text) → Judgement

abbrev pub or_rule : OrderRule → (SetCall → Text) → Option SetCall → Judgement → Judgement
or_rule r name (Some call) next = Broken r (name call)
or_rule r name None next = next

abbrev pub named_by : List Event → SetCall → Text
named_by history c = name_at history c.called

-- the calls of an order of set calls of the history
abbrev pub judgement_of_calls : List Event → List SetCall → Judgement
judgement_of_calls history order =
    or_rule rules_of.Repeated (named_by history) (first_repeated order)
    (or_rule rules_of.Missing (named_by history) (find (is_missing order) (set_calls history))
    (or_rule rules_of.AgainstTime (named_by history) (first_where is_late [] order)
    (or_rule rules_of.WrongReply (named_by history) (first_where has_wrong_reply [] order) Legal)))

-- the set calls with these names, or the first name of no set call
abbrev pub calls_of : List Event → List Text → Result (List SetCall) Text
calls_of history = each (λ name. ok_or (call_named history (set_calls history) name) name)

abbrev pub judged : List Event → Result (List SetCall) Text → Judgement
judged history (Ok calls) = judgement_of_calls history calls
judged history (Err name) = Broken rules_of.UnknownCall name

abbrev pub unless_foreign : Option Event → Judgement → Judgement
unless_foreign (Some e) next = Broken rules_of.NotASetCall (name_of e)
unless_foreign None next = next

-- The rules in their order.
abbrev pub judgement_of : List Event → List Text → Judgement
judgement_of history order = unless_foreign (first_foreign history) (judged history (calls_of history order))
