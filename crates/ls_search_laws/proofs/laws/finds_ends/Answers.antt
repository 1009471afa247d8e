-- Why `finds_ends` in src/laws.rt keeps its contract.

use Rattle.ls_search_laws.proofs.Search.{finds_ends}
use Rattle.ls_search_laws.proofs.laws.finds_ends.Goals as goal

pub returns : goal.returns
returns g c = λ o quiet file program. finds_ends (g.O.Observe.first o) (g.O.Observe.next o) quiet (g.O.Observe.Names o)
    (g.O.Observe.Alike o) file program
