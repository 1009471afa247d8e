-- What is said of an order that isn't legal: which call breaks which rule, and what the set holds where an answer is
-- another.
use Rattle.std.specs.Prelude.{ℤ, List, [], ◌∷◌, ◌++◌, codes}
use Rattle.std.specs.Fmt.{signed_decimal}
use Rattle.std.specs.List.{flat_map}
use Rattle.ls_report.specs.Events.{Event, Text}
use Rattle.ls_orders.specs.Rules.{Broken, Judgement, Legal}
use Rattle.ls_orders.specs.declared.calls.SetCall.{SetCall}
use Rattle.ls_orders.specs.declared.verdict.OrderRule.{OrderRule}
use Rattle.ls_orders.specs.declared.verdict.OrderRule.TheVariants as rules
use Rattle.ls_explanations.specs.Held.{calls_before, held}

-- what is said of the call that breaks a rule
abbrev pub broken_text : OrderRule → Text
broken_text rules.NotASetCall = codes "is no call of the one set, so the history isn't judged"
broken_text rules.UnknownCall = codes "is no set call of the history"
broken_text rules.Repeated = codes "stands twice in the order"
broken_text rules.Missing = codes "returned, and isn't in the order"
broken_text rules.AgainstTime = codes "stands after a call that began when it had ended"
broken_text rules.WrongReply = codes "returned another answer than the set has there"

abbrev pub more_item : ℤ → Text
more_item item = codes ", " ++ signed_decimal item

abbrev pub held_text : List ℤ → Text
held_text [] = codes "it is empty"
held_text (item ∷ items) = codes "it holds " ++ (signed_decimal item ++ flat_map more_item items)

-- where an answer is another than the set has, what the set holds after the calls before
abbrev pub set_text : OrderRule → List SetCall → Text
set_text rules.WrongReply calls = codes ": " ++ held_text (held calls)
set_text other calls = []

-- as `listset: B.2 returned another answer than the set has there: it holds 7, -3`, a line; of a legal order nothing
abbrev pub order_note : List Event → List Text → Judgement → Text
order_note history order Legal = []
order_note history order (Broken rule call) =
    codes "listset: " ++ (call ++ (codes " " ++ (broken_text rule
    ++ (set_text rule (calls_before history order call) ++ codes "\n"))))
