-- Why `others_stay` in src/laws.rt keeps its contract.

use Rattle.ls_search_laws.proofs.Stepping.{others_stay}
use Rattle.ls_search_laws.proofs.laws.others_stay.Goals as goal

pub returns : goal.returns
returns c = others_stay
