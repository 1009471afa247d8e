-- Why `covers_whole` in src/laws.rt keeps its contract.

use Rattle.ls_explore.proofs.Covering.{covers_whole}
use Rattle.ls_explore.proofs.laws.covers_whole.Goals as goal

pub returns : goal.returns
returns c = covers_whole
