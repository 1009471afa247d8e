-- What the command `order` says.
use Rattle.std.specs.Prelude.{Result, Ok, Err}
use Rattle.ls_report.specs.Events.{Text}
use Rattle.ls_order_search.specs.Telling.{Tells}
use Rattle.ls_order_search.specs.declared.fault.SearchFault.{SearchFault}
use Rattle.ls_faults.specs.Faults.{lifted_search}
use Rattle.ls_faults.specs.declared.fault.ToolFault.{ToolFault}
use Rattle.ls_commands.specs.Check.{with_feed}

abbrev pub lifted : Result Text SearchFault → Result Text ToolFault
lifted (Ok text) = Ok text
lifted (Err f) = Err (lifted_search f)

-- the answer is what is told of the history, which may lack its last line feed
pub data OrdersTo (history : Text) : Result Text ToolFault → Type 0 where
  Told : (answer : Result Text SearchFault) → Tells (with_feed history) answer → OrdersTo history (lifted answer)
