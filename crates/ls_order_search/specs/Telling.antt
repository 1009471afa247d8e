-- The verdict on the text of a history.
use Rattle.std.specs.Prelude.{◌≡◌, ◌+◌, ℕ, true, List, [], ◌∷◌, ◌++◌, Option, Some, None, Result, Ok, Err, String}
use Rattle.std.specs.Prelude.{codes}
use Rattle.ls_answers.specs.Answers as answers
use Rattle.std.specs.Prelude.{slice_get, string_bytes, take}
use Rattle.std.specs.Fmt.{decimal}
use Rattle.std.specs.Global.{Global}
use Rattle.ls_report.specs.Events.{Event, Text}
use Rattle.ls_report.specs.Lines.{event_text}
use Rattle.ls_report.specs.Reading.{BreaksAt, Says}
use Rattle.ls_orders.specs.Legal.{IsLegal}
use Rattle.ls_orders.specs.SetCalls.{first_foreign, name_of, set_calls}
use Rattle.ls_order_search.specs.Answers.{IsDecided, IsHopeless}
use Rattle.ls_order_search.specs.OrderLines.{order_line}
use Rattle.ls_order_search.specs.declared.fault.SearchFault.{SearchFault}
use Rattle.ls_order_search.specs.declared.fault.SearchFault.TheVariants as faults
use Rattle.ls_order_search.specs.Trapped.{has_many_trapped}

-- `broken 76 CALL`
abbrev pub foreign_text : Text → Text
foreign_text call = codes "broken 76 " ++ (call ++ 10 ∷ [])

-- `hopeless N LINE`, with the events numbered from 1, and the line of an order
abbrev pub hopeless_text : ℕ → Text → List Text → Text
hopeless_text at line order = codes "hopeless " ++ (decimal (at + 1) ++ (32 ∷ (line ++ (10 ∷ order_line order))))

-- The text is a history, and there are four verdicts. A call isn't a set call on the same object as the others. An
-- item has too many trapped calls. There is a legal order. Or there is the event with which no order is legal any
-- more, with a legal order of the events before it. Or the text is no history, and breaks at a place.
pub data Tells (text : Text) : Result Text SearchFault → Type 0 where
  Foreign : (events : List Event) (e : Event) →
      Says text events →
      first_foreign events ≡ Some e →
      Tells text (Ok (foreign_text (name_of e)))
  ManyTrapped : (events : List Event) →
      Says text events →
      first_foreign events ≡ None →
      has_many_trapped (set_calls events) ≡ true →
      Tells text (Err faults.TooManyTrapped)
  Legal : (events : List Event) (order : List Text) →
      Says text events →
      IsDecided events →
      IsLegal events order →
      Tells text (Ok (order_line order))
  Hopeless : (events : List Event) (at : ℕ) (e : Event) (order : List Text) →
      Says text events →
      IsDecided events →
      IsHopeless events at →
      slice_get events at ≡ Some e
      → IsLegal (take at events) order → Tells text (Ok (hopeless_text at (event_text e) order))
  NoHistory : (at : ℕ) → BreaksAt text at → Tells text (Err (faults.BadHistory at))

-- what a fault says of a text; "out of memory" says nothing
abbrev pub meant : SearchFault → Option SearchFault
meant faults.Memory = None
meant f = Some f

-- the answer is a verdict, or memory ran out
abbrev pub GivesText : (Result Text SearchFault → Type 0) → Result (String Global) SearchFault → Type 0
GivesText May answer = answers.GivesOne meant string_bytes May answer
