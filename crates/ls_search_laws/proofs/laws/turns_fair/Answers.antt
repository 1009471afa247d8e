-- Why `turns_fair` in src/laws.rt keeps its contract.

use Rattle.ls_search_laws.proofs.Cells.{turns_fair}
use Rattle.ls_search_laws.proofs.laws.turns_fair.Goals as goal

pub returns : goal.returns
returns c = turns_fair
