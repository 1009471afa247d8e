-- Why `judge` in src/judging.rt keeps its contract.

use Rattle.std.proofs.Common.{sym}
use Rattle.ls_report.specs.Plain.{plain_event}
use Rattle.ls_order_search.proofs.judging.judge.Goals as goal

pub returns-in-Some : goal.returns-in-Some
returns-in-Some c = (plain_event c.in-Some.event.now, sym c.in-Some.ensures, c.in_ok-call.ensures)
