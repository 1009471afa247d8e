-- Why `ends_whole` in src/laws.rt keeps its contract.

use Rattle.ls_explore.proofs.Endings.{ends_whole}
use Rattle.ls_explore.proofs.laws.ends_whole.Goals as goal

pub returns : goal.returns
returns c = ends_whole
