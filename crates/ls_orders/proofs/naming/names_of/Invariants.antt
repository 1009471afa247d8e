-- What the loop `i` of `names_of` in src/naming.rt keeps.

use Rattle.std.proofs.Common.{drop, map}
use Rattle.ls_report.specs.Plain.{plain_event}
use Rattle.ls_orders.specs.Names.{IsNamed}
use Rattle.ls_orders.specs.SetCalls.{call_named}
use Rattle.ls_orders.proofs.naming.names_of.Given as goal

abbrev pub invariant-loop-i : goal.invariant-loop-i
invariant-loop-i l = IsNamed (call_named (map plain_event l.events) (drop l.i l.calls)) l.calls l.names
