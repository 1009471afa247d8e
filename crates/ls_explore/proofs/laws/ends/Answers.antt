-- Why `ends` in src/laws.rt keeps its contract.

use Rattle.ls_explore.proofs.Endings.{ends_all}
use Rattle.ls_explore.proofs.laws.ends.Goals as goal

pub returns : goal.returns
returns c = ends_all
