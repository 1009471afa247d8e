-- Why `covers` in src/laws.rt keeps its contract.

use Rattle.ls_explore.proofs.Covering.{covers_all}
use Rattle.ls_explore.proofs.laws.covers.Goals as goal

pub returns : goal.returns
returns c = covers_all
