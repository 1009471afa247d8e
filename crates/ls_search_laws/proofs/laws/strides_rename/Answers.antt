-- Why `strides_rename` in src/laws.rt keeps its contract.

use Rattle.ls_search_laws.proofs.Renamed.{strides_rename}
use Rattle.ls_search_laws.proofs.laws.strides_rename.Goals as goal

pub returns : goal.returns
returns c = strides_rename
