-- Why `tells_truth` in src/laws.rt keeps its contract.

use Rattle.ls_search_laws.proofs.Telling.{tells_truth}
use Rattle.ls_search_laws.proofs.laws.tells_truth.Goals as goal

pub returns : goal.returns
returns g c = λ o file program. tells_truth (g.O.Observe.first o) (g.O.Observe.next o) file program
