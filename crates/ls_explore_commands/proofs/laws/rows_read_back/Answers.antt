-- Why `rows_read_back` in src/laws.rt keeps its contract.

use Rattle.ls_explore_commands.proofs.ReadBack.{rows_read_back}
use Rattle.ls_explore_commands.proofs.laws.rows_read_back.Goals as goal

pub returns : goal.returns
returns c = rows_read_back c.schedules_read_back.ensures.printed
