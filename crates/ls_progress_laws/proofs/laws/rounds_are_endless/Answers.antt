-- Why `rounds_are_endless` in src/laws.rt keeps its contract.

use Rattle.ls_progress_laws.proofs.Rounds.{rounds_are_endless}
use Rattle.ls_progress_laws.proofs.laws.rounds_are_endless.Goals as goal

pub returns : goal.returns
returns c = rounds_are_endless
