-- Why `verdicts_read_back` in src/laws.rt keeps its contract.

use Rattle.ls_explore_commands.proofs.ReadBack.{verdicts_read_back}
use Rattle.ls_explore_commands.proofs.laws.verdicts_read_back.Goals as goal

pub returns : goal.returns
returns c = verdicts_read_back c.schedules_read_back.ensures.printed
