-- Why `elaborated_holds_monitors` in src/monitors.rt keeps its clauses `statement` and `file`.

use Rattle.ls_soundness.proofs.Held.{holds_its_monitor, file_holds_monitors}
use Rattle.ls_soundness.proofs.monitors.elaborated_holds_monitors.Goals as goal

pub returns-clause-statement : goal.returns-clause-statement
returns-clause-statement c = holds_its_monitor

pub returns-clause-file : goal.returns-clause-file
returns-clause-file c = file_holds_monitors
