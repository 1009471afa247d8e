-- Why `told_finding` in src/racing.rt keeps its contract.

use Rattle.ls_find_commands.proofs.Beside.{told_some}
use Rattle.ls_find_commands.proofs.racing.told_finding.Goals as goal

pub returns-in_ok-halted-in-Some : goal.returns-in_ok-halted-in-Some
returns-in_ok-halted-in-Some c =
    told_some c.args.finding c.in-Some.halted c.in_ok-halted-in-Some.halted c.in-Some.is c.in_ok-halted-in-Some.ensures
