-- Why `never_acts` in src/laws.rt keeps its contract.

use Rattle.ls_explore.proofs.Rounds.{never_acts}
use Rattle.ls_explore.proofs.laws.never_acts.Goals as goal

pub returns : goal.returns
returns c = never_acts
