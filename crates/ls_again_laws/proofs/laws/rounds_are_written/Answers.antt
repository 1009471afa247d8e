-- Why `rounds_are_written` in src/laws.rt keeps its contract.

use Rattle.ls_again_laws.proofs.Running.{rounds_are_written}
use Rattle.ls_again_laws.proofs.laws.rounds_are_written.Goals as goal

pub returns : goal.returns
returns c = rounds_are_written
