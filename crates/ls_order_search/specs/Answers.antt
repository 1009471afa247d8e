-- What is answered of a history.
use Rattle.std.specs.Prelude.{◌≡◌, ◌<◌, ◌≤◌, ℕ, true, false, List, Some, None, length, map, string_bytes, take}
use Rattle.ls_report.specs.Events.{Event, Text}
use Rattle.ls_orders.specs.Legal.{IsLegal}
use Rattle.ls_orders.specs.SetCalls.{first_foreign, name_of, set_calls}
use Rattle.ls_order_search.specs.Trapped.{has_many_trapped}
use Rattle.ls_order_search.specs.declared.judging.OrderAnswer.{OrderAnswer}
use Rattle.ls_order_search.specs.declared.judging.OrderAnswer.TheVariants as outcomes

abbrev pub HasOrder : List Event → Type 0
HasOrder history = (order : List Text) × IsLegal history order

abbrev pub NoneIsLegal : List Event → Type 0
NoneIsLegal history = (order : List Text) → IsLegal history order → ⊥

-- Each beginning of at most `at` events has a legal order. No longer beginning has one.
pub record IsHopeless (history : List Event) (at : ℕ) : Type 0 where
  pub within : at < length history
  pub before : (count : ℕ) → count ≤ at → HasOrder (take count history)
  pub with_it : (count : ℕ) → at < count → NoneIsLegal (take count history)

-- ---- the outcome

-- all calls are set calls on one object, and no item has over 12 trapped calls
pub record IsDecided (history : List Event) : Type 0 where
  pub one_set : first_foreign history ≡ None
  pub few : has_many_trapped (set_calls history) ≡ false

-- The history has a call of another kind, or too many trapped calls on an item, or a legal order. Or it has no legal
-- order from an event on, but a legal order of the events before that event.
abbrev pub IsOutcome : List Event → OrderAnswer → Type 0
IsOutcome history (outcomes.NotOneSet call) = (e : Event) × (first_foreign history ≡ Some e) ×
    (string_bytes call ≡ name_of e)
IsOutcome history outcomes.TooManyTrapped = (first_foreign history ≡ None) ×
    (has_many_trapped (set_calls history) ≡ true)
IsOutcome history (outcomes.Legal order) = IsDecided history × IsLegal history (map string_bytes order.items)
IsOutcome history (outcomes.Hopeless at order) = IsDecided history × IsHopeless history at ×
    IsLegal (take at history) (map string_bytes order.items)
