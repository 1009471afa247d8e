-- The most trapped calls of an item.
use Rattle.std.specs.Prelude.{ℕ, ℤ, Bool, true, false, List, ◌&&◌, length, filter, nat_lt}
use Rattle.std.specs.List.{list_any}
use Rattle.std.specs.Ordering.{int_eq}
use Rattle.ls_orders.specs.declared.calls.End.{End}
use Rattle.ls_orders.specs.declared.calls.End.TheVariants.{Trapped}
use Rattle.ls_orders.specs.declared.calls.SetCall.{SetCall}

abbrev pub is_trapped : End → Bool
is_trapped (Trapped at) = true
is_trapped other = false

-- how many of the calls on the item ended by an exception
abbrev pub trapped_on : ℤ → List SetCall → ℕ
trapped_on item calls = length (filter (λ c. is_trapped c.end && int_eq c.item item) calls)

-- each way takes or leaves each call: 12 calls on one item have 4096 ways
abbrev pub most_trapped : ℕ
most_trapped = 12

abbrev pub has_many_on : List SetCall → SetCall → Bool
has_many_on calls c = is_trapped c.end && nat_lt most_trapped (trapped_on c.item calls)

-- an item has more trapped calls than that
abbrev pub has_many_trapped : List SetCall → Bool
has_many_trapped calls = list_any (has_many_on calls) calls
