-- Why `cells_fair` in src/laws.rt keeps its contract.

use Rattle.ls_search_laws.proofs.Cells.{cells_fair}
use Rattle.ls_search_laws.proofs.laws.cells_fair.Goals as goal

pub returns : goal.returns
returns c = cells_fair
