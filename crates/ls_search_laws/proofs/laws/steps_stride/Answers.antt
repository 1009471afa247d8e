-- Why `steps_stride` in src/laws.rt keeps its contract.

use Rattle.ls_search_laws.proofs.Renamed.{steps_stride}
use Rattle.ls_search_laws.proofs.laws.steps_stride.Goals as goal

pub returns : goal.returns
returns c = steps_stride
