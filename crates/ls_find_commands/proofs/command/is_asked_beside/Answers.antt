-- Why `is_asked_beside` in src/command.rt keeps its contract.

use Rattle.ls_find_commands.proofs.Beside.{asked_none, asked_some}
use Rattle.ls_find_commands.proofs.command.is_asked_beside.Goals as goal

pub returns-in-Some : goal.returns-in-Some
returns-in-Some c = asked_some c.args.range c.args.finding.now.halted c.in-Some.field-0 c.in-Some.is

pub returns-in-None : goal.returns-in-None
returns-in-None c =
    asked_none c.args.range c.args.finding.now.halted c.are_all_numbers.result c.in-None.is c.are_all_numbers.ensures
