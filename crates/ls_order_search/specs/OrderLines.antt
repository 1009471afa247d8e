-- Orders as lines.
use Rattle.std.specs.Prelude.{◌≡◌, ◌<◌, ◌^◌, true, List, [], ◌∷◌, ◌++◌, length, Ok}
use Rattle.std.specs.List.{flat_map}
use Rattle.ls_report.specs.Discipline.{is_history}
use Rattle.ls_report.specs.Events.{Event, Text}
use Rattle.ls_orders.specs.Legal.{IsLegal}
use Rattle.ls_orders.specs.Orders.{order_of}

-- a space and the call
abbrev pub spaced : Text → Text
spaced call = 32 ∷ call

-- the calls with a space between them, and a line feed
abbrev pub order_line : List Text → Text
order_line [] = 10 ∷ []
order_line (call ∷ calls) = call ++ (flat_map spaced calls ++ 10 ∷ [])

-- The line of a legal order of a history is read as that order.
abbrev pub OrderReadsBack : Type 0
OrderReadsBack = (history : List Event) (order : List Text) → is_history history ≡ true → length history < 2 ^ 64 →
    IsLegal history order
    → order_of (order_line order) ≡ Ok order
