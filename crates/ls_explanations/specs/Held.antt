-- What a set holds after calls, in the order in which its items are told.
use Rattle.std.specs.Prelude.{◌&&◌, ℤ, Bool, true, false, not, List, [], ◌∷◌, ◌++◌, filter, if◌then◌else◌}
use Rattle.std.specs.List.{before_first, filter_map, list_any}
use Rattle.std.specs.Ordering.{int_eq}
use Rattle.std.specs.Str.{bytes_eq}
use Rattle.ls_report.specs.Events.{Event, Text}
use Rattle.ls_orders.specs.Rules.{is_present}
use Rattle.ls_orders.specs.SetCalls.{call_named, set_calls}
use Rattle.ls_orders.specs.declared.calls.Operation.{Operation}
use Rattle.ls_orders.specs.declared.calls.Operation.TheVariants.{Add}
use Rattle.ls_orders.specs.declared.calls.SetCall.{SetCall}

-- the set calls that an order names before the first entry with this text
abbrev pub calls_before : List Event → List Text → Text → List SetCall
calls_before history order entry =
    filter_map (call_named history (set_calls history)) (before_first (bytes_eq entry) order)

abbrev pub is_add : Operation → Bool
is_add Add = true
is_add other = false

-- the call adds an item that isn't among these
abbrev pub is_first_add : List ℤ → SetCall → Bool
is_first_add items c = is_add c.operation && not (list_any (int_eq c.item) items)

abbrev pub with_added : List ℤ → SetCall → List ℤ
with_added items c = if is_first_add items c then items ++ c.item ∷ [] else items

-- these items, and then those that the calls add, each once, by the first call that adds it
abbrev pub added_after : List ℤ → List SetCall → List ℤ
added_after items [] = items
added_after items (c ∷ cs) = added_after (with_added items c) cs

-- of the items that the calls add those that are in the set after the calls
abbrev pub held : List SetCall → List ℤ
held calls = filter (λ item. is_present item calls) (added_after [] calls)
