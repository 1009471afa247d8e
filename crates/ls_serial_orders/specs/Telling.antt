-- What is told of a history.
use Rattle.std.specs.Prelude.{◌≡◌, ℕ, List, Some, codes, slice_get, take}
use Rattle.ls_events.specs.declared.event.Event.{Event as RunEvent}
use Rattle.ls_checked.specs.CheckedTree.{File}
use Rattle.ls_checked.specs.CheckedProgram.{Program}
use Rattle.ls_serial_search.specs.Open.{HasManyOrders}
use Rattle.ls_report.specs.Events.{Event, Text}
use Rattle.ls_report.specs.Lines.{event_text}
use Rattle.ls_order_search.specs.OrderLines.{order_line}
use Rattle.ls_order_search.specs.Telling.{hopeless_text}
use Rattle.ls_serial_orders.specs.Known.{most_states}
use Rattle.ls_serial_orders.specs.Orders.{IsHopeless, IsOrderOf, IsUnknown}

abbrev pub long_text : Text
long_text = codes "not judged: a call goes on\n"

abbrev pub many_text : Text
many_text = codes "not judged: too many states\n"

-- What is told of events of a program, which are these events of a run. An order of whole calls explains them. Or there
-- is the event from which on none does, with an order of the events before it. Or it isn't known, and why.
pub data Tells (file : File) (program : Program) (run : List RunEvent) (events : List Event) : Text → Type 0 where
  Ordered : (order : List Text) →
      IsOrderOf file program run order →
      Tells file program run events (order_line order)
  Hopeless : (at : ℕ) (e : Event) (order : List Text) →
      IsHopeless file program run at →
      slice_get events at ≡ Some e →
      IsOrderOf file program (take at run) order
      → Tells file program run events (hopeless_text at (event_text e) order)
  LongCall : IsUnknown file program run → Tells file program run events long_text
  ManyStates : HasManyOrders file program most_states → Tells file program run events many_text
