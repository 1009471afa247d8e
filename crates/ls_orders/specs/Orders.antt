-- What an order's text says.
use Rattle.std.specs.Prelude.{◌==◌, ◌&&◌, ℕ, Bool, false, not, List, [], ◌∷◌, Option, Some, None, Result, Ok, Err}
use Rattle.std.specs.Prelude.{if◌then◌else◌}
use Rattle.ls_answers.specs.Answers as answers
use Rattle.std.specs.List.{list_all}
use Rattle.std.specs.Option.{option_map_or}
use denote.Ref.{Bor}
use Rattle.ls_lexer.specs.Characters.{is_digit}
use Rattle.ls_lexer.specs.Names.{is_name}
use Rattle.ls_report.specs.Cut.{cut}
use Rattle.ls_report.specs.Events.{Text}
use Rattle.ls_orders.specs.Each.{each}
use Rattle.ls_items.specs.Items.{Item, items}
use Rattle.ls_orders.specs.declared.fault.OrderFault.{OrderFault}
use Rattle.ls_orders.specs.declared.fault.OrderFault.TheVariants as faults

-- the text that is borrowed
abbrev pub plain_text : Bor (List ℕ) → Text
plain_text borrowed = borrowed.now

-- a digit that isn't 0, and then digits
abbrev pub is_number : Text → Bool
is_number [] = false
is_number (b ∷ bs) = not (b == 48) && list_all is_digit (b ∷ bs)

-- a call: a thread's name, a point and a number, as `A.1`
abbrev pub is_call : Text → Bool
is_call text = option_map_or (λ p. is_name p.0 && is_number p.1) (cut 46 text) false

abbrev pub call_at : Item → Result Text OrderFault
call_at item = if is_call item.1 then Ok item.1 else Err (faults.BadOrder item.0)

-- The calls of a text, or the place of its first item that is no call.
abbrev pub order_of : Text → Result (List Text) OrderFault
order_of text = each call_at (items 0 text)

-- what a fault says of an order; "out of memory" says nothing
abbrev pub meant : OrderFault → Option OrderFault
meant faults.Memory = None
meant f = Some f

-- seen by `view`, the answer is what the definition says, or memory ran out
abbrev pub Fails : {Y : Type 0} → OrderFault → Result Y OrderFault → Type 0
Fails f said = answers.Refuses (meant f) said

abbrev pub Gives : {X Y : Type 0} → (X → Y) → Result X OrderFault → Result Y OrderFault → Type 0
Gives view result said = answers.Gives meant view result said
